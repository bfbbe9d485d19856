-- Texts that were found among the words. No public clause names what stands here.
use Rattle.std.specs.Prelude.{Option}
use Rattle.std.specs.Option.{option_map}
use Rattle.cfg_words.specs.declared.words.Given.{Given}
use Rattle.cfg_words.specs.Request.{Asked, request_with}

-- The request of the texts.
abbrev pub request_given : Given → Option Asked
request_given given =
    request_with (option_map (λ s. s.now) given.workers) (option_map (λ s. s.now) given.report)
    (option_map (λ s. s.now) given.make) (option_map (λ s. s.now) given.file)
