-- Serves clause vector of waits_are_noted, counts_tell_what_waits and Tags::note: vectors of eight numbers.
use Rattle.std.proofs.Common.{◌≡◌, ℕ, zero, suc, ◌<◌, inl, inr, List, length, refl, sym, ◌∙◌, arith}
use Rattle.std.specs.Prelude.{slice_index}
use Rattle.std.proofs.lemmas.Bool.{cases_lt}
use Rattle.std.proofs.lemmas.List.{ext_get_or, get_or_past}
use Rattle.strand_base.specs.declared.limits.TheConstants.{CORE_ROOM}
use Rattle.strand_events.specs.Waits.{each_core}

pub each_at : (f : ℕ → ℕ) (c : ℕ) → c < CORE_ROOM → slice_index (each_core f) c ≡ f c
each_at f zero lt = refl
each_at f (suc zero) lt = refl
each_at f (suc (suc zero)) lt = refl
each_at f (suc (suc (suc zero))) lt = refl
each_at f (suc (suc (suc (suc zero)))) lt = refl
each_at f (suc (suc (suc (suc (suc zero))))) lt = refl
each_at f (suc (suc (suc (suc (suc (suc zero)))))) lt = refl
each_at f (suc (suc (suc (suc (suc (suc (suc zero))))))) lt = refl
each_at f (suc (suc (suc (suc (suc (suc (suc (suc c)))))))) lt = absurd (omega (arith, lt))

-- past the eight there is nothing
pub none_at : (c : ℕ) → slice_index (each_core (λ k. 0)) c ≡ 0
none_at c = elim (cases_lt c CORE_ROOM) [ inl lt ↦ each_at (λ k. 0) c lt | inr le ↦ get_or_past (each_core (λ k. 0)) c 0 le ]

pub same_each : (f h : ℕ → ℕ) → ((c : ℕ) → f c ≡ h c) → each_core f ≡ each_core h
same_each f h same = cc (same 0, same 1, same 2, same 3, same 4, same 5, same 6, same 7)

pub each_is : (f : ℕ → ℕ) (w : List ℕ) → length w ≡ CORE_ROOM → ((c : ℕ) → c < CORE_ROOM → slice_index w c ≡ f c) → w ≡ each_core f
each_is f w size agree = ext_get_or 0 w (each_core f) size (λ c lt. let few : c < CORE_ROOM = omega (arith, lt, size) in agree c few ∙ sym (each_at f c few))
