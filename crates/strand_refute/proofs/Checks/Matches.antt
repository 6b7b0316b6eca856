-- Serves check, by is_matched, and refute, by needed: a `match` line says what the judge looks up.
use Rattle.std.proofs.Common.{◌≡◌, ℕ, true, List, arith}
use Rattle.strand_events.specs.declared.event.Event.{Event}
use Rattle.strand_events.specs.Trace.{word_at}
use Rattle.strand_events.specs.Order.{Set}
use Rattle.strand_judge.specs.Judged.{Crash}
use Rattle.strand_judge.specs.Offered.{Asks, IsForced}
use Rattle.strand_refute.specs.Accepted.{IsFirstMade, IsFirstMadeAfter}

module _ (t : List Event) (crash : Crash) where
  pub made_forced : (e : ℕ) → IsFirstMade t crash e → IsForced t crash (word_at t e) e
  made_forced e m = record { has = m.has; differs = m.differs; first = (omega arith, m.offers, λ p from lt. m.first p lt) }

  pub forced_made : (e : ℕ) → IsForced t crash (word_at t e) e → IsFirstMade t crash e
  forced_made e f = record { has = f.has; differs = f.differs; offers = f.first.1; first = λ p lt. f.first.2 p (omega arith) lt }

  module _ (needed : Set) (e after : ℕ) where
    pub made_asks : IsFirstMadeAfter t crash needed e after → Asks t crash after e
    made_asks m = record {
      persist = m.persist;
      has = m.has;
      differs = m.differs;
      next = (omega (arith, m.later), m.offers, λ p from lt. m.first p (omega (arith, from)) lt);
    }

    pub asks_made : needed after ≡ true → Asks t crash after e → IsFirstMadeAfter t crash needed e after
    asks_made need a = record {
      has = a.has;
      needed_is = need;
      persist = a.persist;
      differs = a.differs;
      later = omega (arith, a.next.0);
      offers = a.next.1;
      first = λ p late lt. a.next.2 p (omega (arith, late)) lt;
    }
