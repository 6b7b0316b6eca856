-- Serves clause step of PlainMachine::step: a trace gone over event by event.
use Rattle.std.proofs.Common.{◌≡◌, ℕ, zero, suc, ◌+◌, ◌<◌, Bool, ◌||◌, List, [], ◌∷◌, length, ap, arith}
use Rattle.strand_base.specs.declared.limits.TheConstants.{CORE_ROOM}
use Rattle.strand_base.specs.Counting.{any_below}
use Rattle.strand_events.specs.declared.event.Event.{Event}
use Rattle.strand_events.specs.Trace.{core_at}
use Rattle.strand_events.specs.Fits.{AllFit}

-- each event is of one of eight cores
pub core_few : (t : List Event) (a : ℕ) → AllFit t → a < length t → core_at t a < CORE_ROOM
core_few [] a all lt = absurd (omega arith)
core_few (e ∷ t) zero all lt = all.0.0
core_few (e ∷ t) (suc a) all lt = core_few t a all.1 (omega arith)

pub any_next : (n : ℕ) (test : ℕ → Bool) → any_below (n + 1) test ≡ test n || any_below n test
any_next n test = let next : n + 1 ≡ suc n = omega arith in ap (λ m. any_below m test) next
