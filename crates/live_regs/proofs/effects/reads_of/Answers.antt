use Rattle.std.proofs.Common.{◌≡◌, ◌==◌, ◌&&◌, ◌||◌, not, sym, ap, ◌∙◌, ⊎_elim}
use Rattle.live_regs.specs.Effects.{has_source}
use Rattle.live_regs.proofs.Bits.{ecall_bit, two_bits}
use Rattle.live_regs.proofs.effects.reads_of.Goals as goal

pub returns-in-Ecall : goal.returns-in-Ecall
returns-in-Ecall c = λ r low. ecall_bit r low ∙ ap (λ i. not (r == 0) && has_source i r) (sym c.in-Ecall.is)

pub returns-in-Branch : goal.returns-in-Branch
returns-in-Branch c = λ r low.
    let source : has_source c.args.insn r ≡ (r == c.in-Branch.rs1 || r == c.in-Branch.rs2) =
    ⊎_elim (λ b. ap (λ i. has_source i r) b.2)
    (⊎_elim (λ s. ap (λ i. has_source i r) s.2)
    (⊎_elim (λ g. ap (λ i. has_source i r) g.2)
    (⊎_elim (λ w. ap (λ i. has_source i r) w.2)
    (⊎_elim (λ a. ap (λ i. has_source i r) a.5) (λ h. ap (λ i. has_source i r) h.3))))) c.in-Branch.is in
    two_bits _ _ r (not (r == 0)) (r == c.in-Branch.rs1) (r == c.in-Branch.rs2) (c.register-in-Branch.ensures r low) (c.register-in-Branch-2.ensures r low)
    ∙ ap (λ b. not (r == 0) && b) (sym source)
