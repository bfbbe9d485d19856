-- The definitions at small values.
use Rattle.std.proofs.Common.{◌≡◌, [], ◌∷◌, true, false, Some, None, refl, inl, inr, arith, lit<, lit≤}
use Rattle.cfg_io.specs.Fault.{Rose, one_more}
use Rattle.cfg_io.specs.Opened.{Nothing, told_path}
use Rattle.cfg_io.specs.Told.{Takes, TakesCount, Appends, AppendsPrefix}
use Rattle.cfg_io.specs.Script.{FailsNext}
use Rattle.cfg_io.specs.MemInput.{MemInputState, opened_of, after_failed, after_open, after_read}

rose : Rose 3 4
rose = inl (lit< tt)

stayed : ¬ Rose 3 3
stayed = elim [ inl h ↦ absurd (omega (arith, h)) | inr h ↦ absurd (omega (arith, h)) ]

stands_at_the_end : Rose 18446744073709551615 18446744073709551615
stands_at_the_end = inr (lit≤ tt)

counts_one : one_more 0 ≡ 1
counts_one = refl

counts_no_further : one_more 18446744073709551615 ≡ 18446744073709551615
counts_no_further = refl

path_told : told_path true (102 ∷ []) ≡ Some (102 ∷ [])
path_told = refl

path_not_told : told_path false (102 ∷ []) ≡ None
path_not_told = refl

took_two : Takes (Some (1 ∷ 2 ∷ 3 ∷ [])) (1 ∷ 2 ∷ []) (Some (3 ∷ []))
took_two = refl

took_others : ¬ Takes (Some (1 ∷ 2 ∷ 3 ∷ [])) (1 ∷ 3 ∷ []) (Some (3 ∷ []))
took_others h = cc

took_untold : Takes None (1 ∷ 2 ∷ []) None
took_untold = refl

told_at_once : ¬ Takes None [] (Some [])
told_at_once h = cc

took_two_of_three : TakesCount (Some (1 ∷ 2 ∷ 3 ∷ [])) 2 (Some (3 ∷ []))
took_two_of_three = (1 ∷ 2 ∷ [], refl, refl)

appended : Appends (Some (1 ∷ [])) (2 ∷ 3 ∷ []) (Some (1 ∷ 2 ∷ 3 ∷ []))
appended = refl

appended_a_part : AppendsPrefix (Some (1 ∷ [])) (2 ∷ 3 ∷ []) (Some (1 ∷ 2 ∷ []))
appended_a_part = (1, lit< tt, refl)

third_fails : FailsNext (1 ∷ 3 ∷ []) 2
third_fails = (1, lit< tt, refl)

first_of_a_reading : MemInputState
first_of_a_reading = record { name = 102 ∷ []; rest = 7 ∷ 8 ∷ 9 ∷ []; most = 2; failing = 1 ∷ []; calls = 0; is_open = false; faults = 0 }

closed_at_first : opened_of first_of_a_reading ≡ Nothing
unfolding first_of_a_reading
closed_at_first = refl

after_three_calls : after_read (after_open (after_failed first_of_a_reading)) 2 ≡ record { name = 102 ∷ []; rest = 9 ∷ []; most = 2; failing = 1 ∷ []; calls = 3; is_open = true; faults = 1 }
unfolding first_of_a_reading
after_three_calls = refl
