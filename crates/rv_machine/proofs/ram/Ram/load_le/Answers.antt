use Rattle.std.proofs.Common.{◌≡◌, ℕ, suc, ◌+◌, ◌-◌, ◌*◌, ◌%◌, ◌^◌, ◌<◌, ◌≤◌, Some, None, sym, ap, ◌∙◌, subst, arith}
use Rattle.rv_machine.specs.Memory.{loaded}
use Rattle.rv_machine.proofs.ByteLoops.{loaded-more, loaded-missing, fits-more, room}
use Rattle.rv_machine.proofs.ram.Ram.load_le.Goals as goal

pub returns-in_err-byte-clause-value : goal.returns-in_err-byte-clause-value
returns-in_err-byte-clause-value g c =
    let memory = g.Self.Ram.bytes c.args.self.now in
    let left = c.loop-left.left - 1 in
    let place : (c.args.a + c.from.result) % 2 ^ 64 ≡ (c.args.a + left) % 2 ^ 64 = ap (λ k. (c.args.a + k) % 2 ^ 64) c.from.ensures in
    let none : memory ((c.args.a + left) % 2 ^ 64) ≡ None = ap memory (sym place) ∙ sym c.load.ensures ∙ c.in_err-byte.was in
    let same : c.args.a % 2 ^ 64 ≡ c.args.a = omega arith in
    c.from_residual.ensures
    ∙ sym (ap (loaded c.args.count memory) (sym same) ∙ loaded-missing c.args.count left c.args.a memory (omega arith) none)

pub overflow_mul-value : goal.overflow_mul-value
overflow_mul-value g c =
    let h = room (c.args.count - c.loop-left.left) c.loop-left.value (omega arith) c.loop-left.invariant.fits in omega arith

pub overflow_add-value : goal.overflow_add-value
overflow_add-value g c =
    let h = room (c.args.count - c.loop-left.left) c.loop-left.value (omega arith) c.loop-left.invariant.fits in omega arith

pub loop-left-preserved : goal.loop-left-preserved
loop-left-preserved g c =
    let memory = g.Self.Ram.bytes c.args.self.now in
    let m = c.args.count - c.loop-left.left in
    let left = c.loop-left.left - 1 in
    let place : (c.args.a + c.from.result) % 2 ^ 64 ≡ (c.args.a + left) % 2 ^ 64 = ap (λ k. (c.args.a + k) % 2 ^ 64) c.from.ensures in
    let here : memory ((c.args.a + left) % 2 ^ 64) ≡ Some c.in_ok-byte.byte = ap memory (sym place) ∙ sym c.load.ensures ∙ c.in_ok-byte.was in
    let next : (c.args.a + (left + 1)) % 2 ^ 64 ≡ (c.args.a + c.loop-left.left) % 2 ^ 64 = ap (λ k. (c.args.a + k) % 2 ^ 64) (back c.loop-left.left c.loop-left-test.true) in
    let known = loaded-more m left c.args.a memory c.in_ok-byte.byte c.loop-left.value here (ap (loaded m memory) next ∙ c.loop-left.invariant.known) in
    let more : c.args.count - left ≡ suc m = omega arith in
    let byte = c.from-in-loop-left.ensures in
    record {
      within = omega arith;
      known = ap (λ k. loaded k memory ((c.args.a + left) % 2 ^ 64)) more ∙ known ∙ ap (λ b. Some (c.loop-left.value * 256 + b)) (sym byte);
      fits = subst (λ k. c.loop-left.value * 256 + c.from-in-loop-left.result < 2 ^ (8 * k)) (up (c.args.count - left) m more) (fits-more m c.loop-left.value c.from-in-loop-left.result c.loop-left.invariant.fits (omega arith));
    }
  where
    back : (n : ℕ) → 0 < n → n - 1 + 1 ≡ n
    back n some = omega arith

    up : (k m : ℕ) → k ≡ suc m → m + 1 ≡ k
    up k m e = omega arith
