-- Serves clause buffers of parts_are_kept: the places in use of a ring, from the oldest member that isn't done on.
use Rattle.std.proofs.Common.{◌≡◌, ℕ, zero, suc, ◌+◌, ◌<◌, ◌≤◌, Bool, true, false, ◌&&◌, inl, inr, refl, ap, ◌∙◌, arith}
use Rattle.std.specs.Prelude.{not}
use Rattle.std.proofs.lemmas.Bool.{cases_Bool, and_parts, and_from, both_ways, not-true, false_from_ne_true}
use Rattle.strand_base.specs.Counting.{count_below, any_below}
use Rattle.strand_base.proofs.BelowBound.{any_agree, any_true, any_from, count_agree, count_flat, count_mono, count_yes, count_no}

abbrev pub is_used : (ℕ → Bool) → (ℕ → Bool) → ℕ → Bool
is_used ring done p = ring p && any_below (suc p) (λ q. ring q && not (done q))

abbrev pub uses : ℕ → (ℕ → Bool) → (ℕ → Bool) → ℕ
uses n ring done = count_below n (is_used ring done)

used_agree : (ring other done done' : ℕ → Bool) (p : ℕ) → ((q : ℕ) → q < suc p → ring q ≡ other q) → ((q : ℕ) → done q ≡ done' q) → is_used ring done p ≡ is_used other done' p
used_agree ring other done done' p same same' = cc (same p (omega arith), any_agree (suc p) (λ q. ring q && not (done q)) (λ q. other q && not (done' q)) (λ q lt. cc (same q lt, same' q)))

pub uses_agree : (n : ℕ) (ring other done done' : ℕ → Bool) → ((q : ℕ) → q < n → ring q ≡ other q) → ((q : ℕ) → done q ≡ done' q) → uses n ring done ≡ uses n other done'
uses_agree n ring other done done' same same' = count_agree n (is_used ring done) (is_used other done') (λ p lt. used_agree ring other done done' p (λ q below. same q (omega arith)) same')

-- members past a bound there are none
pub uses_past : (n m : ℕ) (ring done : ℕ → Bool) → n ≤ m → ((p : ℕ) → n ≤ p → ring p ≡ false) → uses m ring done ≡ uses n ring done
uses_past n m ring done le none = count_flat n m (is_used ring done) le (λ p above below. rw (none p above) refl)

pub uses_none : (n : ℕ) (ring done : ℕ → Bool) → ((p : ℕ) → ring p ≡ false) → uses n ring done ≡ 0
uses_none n ring done none = uses_past 0 n ring done (omega arith) (λ p above. none p)

count_weaker : (n : ℕ) (f h : ℕ → Bool) → ((k : ℕ) → f k ≡ true → h k ≡ true) → count_below n f ≤ count_below n h
count_weaker zero f h so = omega arith
count_weaker (suc n) f h so = elim (cases_Bool (f n)) [
  | inl yes_ ↦ omega (arith, count_yes n f yes_, count_yes n h (so n yes_), count_weaker n f h so)
  | inr no_ ↦ omega (arith, count_no n f no_, count_weaker n f h so, count_mono n (suc n) h (omega arith))
]

still_used : (ring done more : ℕ → Bool) → ((q : ℕ) → done q ≡ true → more q ≡ true) → (p : ℕ) → is_used ring more p ≡ true → is_used ring done p ≡ true
still_used ring done more so p used =
    let parts = and_parts (ring p) (any_below (suc p) (λ q. ring q && not (more q))) used in
    let undone_one = any_true (suc p) (λ q. ring q && not (more q)) parts.1 in
    let q = undone_one.0 in
    let both = and_parts (ring q) (not (more q)) undone_one.2 in
    let undone : done q ≡ false = false_from_ne_true (done q) (λ d. both_ways (more q) (not-true (more q) both.1) (so q d)) in
    and_from (ring p) (any_below (suc p) (λ q. ring q && not (done q))) parts.0 (any_from (suc p) (λ q. ring q && not (done q)) q undone_one.1 (and_from (ring q) (not (done q)) both.0 (ap not undone)))

-- what is done frees places
pub uses_fewer : (n : ℕ) (ring done more : ℕ → Bool) → ((q : ℕ) → done q ≡ true → more q ≡ true) → uses n ring more ≤ uses n ring done
uses_fewer n ring done more so = count_weaker n (is_used ring more) (is_used ring done) (still_used ring done more so)

-- one more member, after all others
pub uses_one : (n k : ℕ) (ring more done : ℕ → Bool) → k < n → ((p : ℕ) → k ≤ p → ring p ≡ false) → ((p : ℕ) → (p ≡ k → ⊥) → more p ≡ ring p) → uses n more done ≤ uses n ring done + 1
uses_one n k ring more done lt none same =
    let past : uses n more done ≡ uses (suc k) more done = uses_past (suc k) n more done (omega arith) (λ p above. same p (λ e. omega (arith, e)) ∙ none p (omega arith)) in
    let front : uses k more done ≡ uses k ring done = uses_agree k more ring done done (λ q below. same q (λ e. omega (arith, e))) (λ q. refl) in
    let fewer : uses k ring done ≤ uses n ring done = count_mono k n (is_used ring done) (omega arith) in
    let last : uses (suc k) more done ≤ uses k more done + 1 = elim (cases_Bool (is_used more done k)) [ inl yes_ ↦ omega (arith, count_yes k (is_used more done) yes_) | inr no_ ↦ omega (arith, count_no k (is_used more done) no_) ] in
    omega (arith, past, front, fewer, last)
