use Rattle.std.proofs.Common.{codes, [], ◌∷◌, ap₂, ◌||◌}
use Rattle.elf_image.specs.Architecture.{is_vector, begins}
use Rattle.elf_image.specs.Inner.Architecture.{lower}
use Rattle.elf_image.proofs.Join.{same_extensions, one_name, one_more, alone_passes}
use Rattle.elf_image.proofs.names.named_by.Goals as goal

pub returns : goal.returns
returns c =
    let name = lower c.args.name.now in
    same_extensions _ _
    (one_more _ _ (codes "zba") name (codes "b" ∷ []) c.is_word.ensures (one_name _ (codes "b") name c.is_word-b.ensures))
    (one_more _ _ (codes "zbb") name (codes "b" ∷ []) c.is_word-2.ensures (one_name _ (codes "b") name c.is_word-b.ensures))
    (one_more _ _ (codes "zbs") name (codes "b" ∷ []) c.is_word-3.ensures (one_name _ (codes "b") name c.is_word-b.ensures))
    (one_name _ (codes "zbc") name c.is_word-4.ensures)
    (one_more _ _ (codes "zbkb") name (codes "zkn" ∷ codes "zk" ∷ codes "zks" ∷ []) c.is_word-5.ensures (one_more _ _ (codes "zkn") name (codes "zk" ∷ codes "zks" ∷ []) c.is_word-zkn.ensures (one_more _ _ (codes "zk") name (codes "zks" ∷ []) c.is_word-zk.ensures (one_name _ (codes "zks") name c.is_word-zks.ensures))))
    (one_more _ _ (codes "zbkc") name (codes "zkn" ∷ codes "zk" ∷ codes "zks" ∷ []) c.is_word-6.ensures (one_more _ _ (codes "zkn") name (codes "zk" ∷ codes "zks" ∷ []) c.is_word-zkn.ensures (one_more _ _ (codes "zk") name (codes "zks" ∷ []) c.is_word-zk.ensures (one_name _ (codes "zks") name c.is_word-zks.ensures))))
    (one_more _ _ (codes "zbkx") name (codes "zkn" ∷ codes "zk" ∷ codes "zks" ∷ []) c.is_word-7.ensures (one_more _ _ (codes "zkn") name (codes "zk" ∷ codes "zks" ∷ []) c.is_word-zkn.ensures (one_more _ _ (codes "zk") name (codes "zks" ∷ []) c.is_word-zk.ensures (one_name _ (codes "zks") name c.is_word-zks.ensures))))
    (one_more _ _ (codes "zknd") name (codes "zkn" ∷ codes "zk" ∷ []) c.is_word-8.ensures (one_more _ _ (codes "zkn") name (codes "zk" ∷ []) c.is_word-zkn.ensures (one_name _ (codes "zk") name c.is_word-zk.ensures)))
    (one_more _ _ (codes "zkne") name (codes "zkn" ∷ codes "zk" ∷ []) c.is_word-9.ensures (one_more _ _ (codes "zkn") name (codes "zk" ∷ []) c.is_word-zkn.ensures (one_name _ (codes "zk") name c.is_word-zk.ensures)))
    (one_more _ _ (codes "zknh") name (codes "zkn" ∷ codes "zk" ∷ []) c.is_word-10.ensures (one_more _ _ (codes "zkn") name (codes "zk" ∷ []) c.is_word-zkn.ensures (one_name _ (codes "zk") name c.is_word-zk.ensures)))
    (one_more _ _ (codes "zksed") name (codes "zks" ∷ []) c.is_word-11.ensures (one_name _ (codes "zks") name c.is_word-zks.ensures))
    (one_more _ _ (codes "zksh") name (codes "zks" ∷ []) c.is_word-12.ensures (one_name _ (codes "zks") name c.is_word-zks.ensures))
    (one_name _ (codes "zicond") name c.is_word-13.ensures)
    (one_more _ _ (codes "zcb") name (codes "zce" ∷ []) c.is_word-14.ensures (one_name _ (codes "zce") name c.is_word-zce.ensures))
    (one_more _ _ (codes "zcmp") name (codes "zce" ∷ []) c.is_word-15.ensures (one_name _ (codes "zce") name c.is_word-zce.ensures))
    (one_more _ _ (codes "zcmt") name (codes "zce" ∷ []) c.is_word-16.ensures (one_name _ (codes "zce") name c.is_word-zce.ensures))
    (one_name _ (codes "zimop") name c.is_word-17.ensures)
    (one_name _ (codes "zcmop") name c.is_word-18.ensures)
    (one_name _ (codes "zacas") name c.is_word-19.ensures)
    (one_name _ (codes "zabha") name c.is_word-20.ensures)
    (one_name _ (codes "zawrs") name c.is_word-21.ensures)
    (one_name _ (codes "zicbom") name c.is_word-22.ensures)
    (one_name _ (codes "zicboz") name c.is_word-23.ensures)
    (one_name _ (codes "zicfiss") name c.is_word-24.ensures)
    (one_name _ (codes "zicfilp") name c.is_word-25.ensures)
    (one_more _ _ (codes "zfinx") name (codes "zdinx" ∷ codes "zhinx" ∷ codes "zhinxmin" ∷ []) c.is_word-26.ensures (one_more _ _ (codes "zdinx") name (codes "zhinx" ∷ codes "zhinxmin" ∷ []) c.is_word-27.ensures (one_more _ _ (codes "zhinx") name (codes "zhinxmin" ∷ []) c.is_word-zhinx.ensures (one_name _ (codes "zhinxmin") name c.is_word-zhinxmin.ensures))))
    (one_name _ (codes "zhinx") name c.is_word-zhinx.ensures)
    (one_name _ (codes "zhinxmin") name c.is_word-zhinxmin.ensures)
    (one_name _ (codes "zfh") name c.is_word-28.ensures)
    (one_name _ (codes "zfhmin") name c.is_word-29.ensures)
    (one_name _ (codes "zfa") name c.is_word-30.ensures)
    (one_name _ (codes "zfbfmin") name c.is_word-31.ensures)
    (one_name _ (codes "zvfh") name c.is_word-32.ensures)
    (alone_passes is_vector _ name (ap₂ (λ a b. a || b) c.is_word-33.ensures c.begins.ensures))
    (alone_passes (begins (codes "xthead")) _ name c.begins-2.ensures)
