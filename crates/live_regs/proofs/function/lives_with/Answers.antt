use Rattle.std.proofs.Common.{◌≡◌, ℕ, List, length, All, sym, subst}
use Rattle.cfg_model.specs.declared.live.Live.{Live}
use Rattle.mask_flow.specs.declared.ways.Way.{Way}
use Rattle.mask_flow.specs.Reaches.{HaveAll, IsWithin}
use Rattle.live_regs.specs.Masks.{AreLivesOf}
use Rattle.live_regs.proofs.Found.{ways_within, lives_made}
use Rattle.live_regs.proofs.function.lives_with.Goals as goal

both : (P : List ℕ → List Way → Type 0) (ms masks : List ℕ) (ws ways : List Way) → ms ≡ masks → ws ≡ ways → P masks ways → P ms ws
both P ms masks ws ways p q h = subst (λ x. P x ws) (sym p) (subst (P masks) (sym q) h)

spread_from : (ms masks ss stops : List ℕ) (ws ways : List Way) (found : List ℕ) → ms ≡ masks → ss ≡ stops → ws ≡ ways → HaveAll ms ss ws found → HaveAll masks stops ways found
spread_from ms masks ss stops ws ways found p q r h =
    subst (λ x. HaveAll x stops ways found) p (subst (λ x. HaveAll ms x ways found) q (subst (λ x. HaveAll ms ss x found) r h))

pub spread_items-requires-clause-within : goal.spread_items-requires-clause-within
spread_items-requires-clause-within c = both (λ ms ws. All (IsWithin (length ms)) ws) _ _ _ _ c.deref_mut.ensures.value c.deref.ensures.value (ways_within _ _ _ _ _ c.in_ok-begin.ensures)

pub returns : goal.returns
returns c =
    let made = lives_made c.args.program.now.image.now c.args.program.now.blocks.now c.args.program.now.edges.now c.as_slice-body.result.now c.begin.new.self c.in_ok-begin.ensures _
    (spread_from _ _ _ _ _ _ _ c.deref_mut.ensures.value c.deref-2.ensures.value c.deref.ensures.value c.in_ok-items.ensures.spread)
    c.in_ok-items.items.items c.in_ok-items.ensures.size c.in_ok-items.ensures.items in
    subst (λ (lives : List Live). AreLivesOf c.args.program.now.image.now c.args.program.now.blocks.now c.args.program.now.edges.now c.args.function.now.body lives) (sym c.from_vec.ensures)
    (subst (λ (body : List ℕ). AreLivesOf c.args.program.now.image.now c.args.program.now.blocks.now c.args.program.now.edges.now body c.in_ok-items.items.items) c.as_slice-body.ensures made)
