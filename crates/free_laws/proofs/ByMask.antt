-- States that agree by a mask agree in what is live.
use Rattle.std.proofs.Common.{◌≡◌, ℕ, zero, suc, ◌≤◌, ◌<◌, refl, arith}
use Rattle.rv_machine.specs.Registers.{held}
use Rattle.live_regs.specs.Live.{IsLive}
use Rattle.free_laws.specs.Free.{MasksSayWhatIsLive}

pub masks_say_what_is_live : MasksSayWhatIsLive
masks_say_what_is_live bytes graph body s mask one other is agree = record {
  pc = agree.pc;
  reservation = agree.reservation;
  registers = by;
}
  where
    by : (r : ℕ) → r < 32 → IsLive bytes graph.blocks graph.edges body r s → held one.registers r ≡ held other.registers r
    by zero low live = refl
    by (suc r) low live = agree.registers (suc r) low ((is.bits (suc r) low).1 (omega arith, live))
