-- Serves clauses closed and joined of durable_sets_are_allowed: what every state that a run reaches keeps.
use Rattle.std.proofs.Common.{◌≡◌, ℕ, zero, suc, ◌<◌, false, inl, inr, Bool, List, [], length, refl, sym, subst, arith}
use Rattle.std.specs.Prelude.{slice_index, replicate}
use Rattle.std.proofs.Math.Path.{fun_ext}
use Rattle.std.proofs.lemmas.Bool.{and_parts, false≢true}
use Rattle.std.proofs.lemmas.List.{length-replicate}
use Rattle.std.proofs.lemmas.Option.{none-some}
use Rattle.strand_inputs.specs.Settings.{Settings}
use Rattle.strand_inputs.specs.declared.mode.Mode.{Mode}
use Rattle.strand_exec.specs.Core.{Core}
use Rattle.strand_exec.specs.Memory.{Memory}
use Rattle.strand_events.specs.declared.event.Event.{Event}
use Rattle.strand_events.specs.Trace.{is_join, core_at}
use Rattle.strand_events.specs.Order.{set_of, stands_between}
use Rattle.strand_rules.specs.Cycle.{State, start_at}
use Rattle.strand_rules.specs.DispatchedPersists.{IsInSomePart, AreApart}
use Rattle.strand_inputs.specs.declared.conflict.Conflict.{Conflict}
use Rattle.strand_rules.proofs.Order.Sets.Invariant.{Ordered}

pub record Good (conflict : Conflict) (mode : Mode) (t : List Event) (cores : ℕ) (dispatched : List ℕ) (buffered : List Bool) (flight : List ℕ) (durable : List Bool) : Type 0 where
  pub ordered : Ordered conflict mode t (slice_index dispatched) (set_of buffered) flight (set_of durable)
  pub apart : AreApart (set_of buffered) flight (set_of durable)
  pub buffered_marks : length buffered ≡ length t
  pub durable_marks : length durable ≡ length t
  pub counts : length dispatched ≡ cores
  -- each event is of a core that there is
  pub owned : (i : ℕ) → i < length t → core_at t i < cores

abbrev pub IsGood : Settings → State → Type 0
IsGood g s = Good g.conflict g.mode s.now.trace (length s.now.cores) s.dispatched s.buffered s.flight s.durable

nothing : (p : ℕ) → IsInSomePart (λ p. false) [] (λ p. false) p → ⊥
nothing p (inl b) = false≢true b
nothing p (inr (inl (i, at))) = none-some p at
nothing p (inr (inr d)) = false≢true d

start_ordered : (conflict : Conflict) (mode : Mode) → Ordered conflict mode [] (λ c. 0) (λ p. false) [] (λ p. false)
start_ordered conflict mode = record {
  met = λ b is must. absurd (false≢true is);
  drained = λ p joined. absurd (false≢true ((and_parts false (stands_between is_join 0 [] p 0) joined).0));
  persists = λ p a. absurd (nothing p a);
  within = λ core. omega arith;
  ranked = λ p a. absurd (nothing p a);
  taken = λ p is below. absurd (false≢true is);
  lower = λ p q sent l. absurd (false≢true l.persist);
  older = λ p q done o. absurd (false≢true o.persist);
  in_flight = λ i p q at o. absurd (false≢true o.persist);
}

none_gone : (cores c : ℕ) → slice_index (replicate cores zero) c ≡ zero
none_gone zero c = refl
none_gone (suc cores) zero = refl
none_gone (suc cores) (suc c) = none_gone cores c

pub start_good : (g : Settings) (cores : List Core) (memory : Memory) → IsGood g (start_at cores memory)
start_good g cores memory = record {
  ordered = subst (λ d. Ordered g.conflict g.mode [] d (set_of []) [] (set_of [])) (sym (fun_ext (none_gone (length cores)))) (start_ordered g.conflict g.mode);
  apart = record { one_place = λ i h p a b. absurd (none-some p a); not_both = λ p b sent. false≢true b; not_done = λ p f d. false≢true d };
  buffered_marks = refl;
  durable_marks = refl;
  counts = length-replicate (length cores) zero;
  owned = λ i lt. absurd (omega arith);
}
