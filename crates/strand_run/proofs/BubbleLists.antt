-- Serves bubbles_of, in reports and summaries: the bubbles of some turns and one more.
use Rattle.std.proofs.Common.{◌≡◌, ℕ, suc, ◌+◌, ◌<◌, List, [], ◌∷◌, ◌++◌, length, take, get_or, refl, ap, ◌∙◌, arith, append-nil}
use Rattle.std.proofs.lemmas.List.{take_more, length-take-le}
use Rattle.strand_rules.specs.Bubbles.{bubbles_from, bubbles_of}
use Rattle.strand_rules.specs.declared.turn.BubbleAt.{BubbleAt}
use Rattle.strand_rules.specs.declared.turn.Cause.{Cause}
use Rattle.strand_rules.specs.declared.turn.Turn.{Turn}
use Rattle.strand_rules.specs.declared.turn.Turn.TheVariants.{Done, Bubble, Fault}

shift : (k : ℕ) (ts : List Turn) (t : Turn) (front : List BubbleAt) → front ++ bubbles_from (length ts + suc k) (t ∷ []) ≡ front ++ bubbles_from (suc (length ts) + k) (t ∷ [])
shift k ts t front = ap (λ (n : ℕ). front ++ bubbles_from n (t ∷ [])) (omega arith)

-- one turn more at the end
bubbles_more : (k : ℕ) (ts : List Turn) (t : Turn) → bubbles_from k (ts ++ t ∷ []) ≡ bubbles_from k ts ++ bubbles_from (length ts + k) (t ∷ [])
unfolding bubbles_from
bubbles_more k [] t = ap (λ (n : ℕ). bubbles_from n (t ∷ [])) (omega arith)
bubbles_more k (Done ∷ ts) t = bubbles_more (suc k) ts t ∙ shift k ts t (bubbles_from (suc k) ts)
bubbles_more k (Fault m ∷ ts) t = bubbles_more (suc k) ts t ∙ shift k ts t (bubbles_from (suc k) ts)
bubbles_more k (Bubble cause ∷ ts) t =
    ap (λ (bs : List BubbleAt). record { cycle = k; cause = cause } ∷ bs) (bubbles_more (suc k) ts t ∙ shift k ts t (bubbles_from (suc k) ts))

bubbles_next : (ts : List Turn) (i : ℕ) (d : Turn) → i < length ts → bubbles_of (take (i + 1) ts) ≡ bubbles_of (take i ts) ++ bubbles_from (i + 1) (get_or ts i d ∷ [])
bubbles_next ts i d lt =
    let many : length (take i ts) ≡ i = length-take-le i ts (omega (arith, lt)) in
    rw (take_more ts i d lt) (bubbles_more 1 (take i ts) (get_or ts i d)) ∙ ap (λ (n : ℕ). bubbles_of (take i ts) ++ bubbles_from (n + 1) (get_or ts i d ∷ [])) many

pub no_bubbles : bubbles_of [] ≡ []
unfolding bubbles_from
no_bubbles = refl

nothing_done : (k : ℕ) → bubbles_from k (Done ∷ []) ≡ []
unfolding bubbles_from
nothing_done k = refl

nothing_fault : (k m : ℕ) → bubbles_from k (Fault m ∷ []) ≡ []
unfolding bubbles_from
nothing_fault k m = refl

one_bubble : (k : ℕ) (cause : Cause) → bubbles_from k (Bubble cause ∷ []) ≡ record { cycle = k; cause = cause } ∷ []
unfolding bubbles_from
one_bubble k cause = refl

pub other_next : (ts : List Turn) (i : ℕ) (d : Turn) → i < length ts → ((cause : Cause) → get_or ts i d ≡ Bubble cause → ⊥) → bubbles_of (take (i + 1) ts) ≡ bubbles_of (take i ts)
other_next ts i d lt other = bubbles_next ts i d lt ∙ ap (λ (bs : List BubbleAt). bubbles_of (take i ts) ++ bs) (none (get_or ts i d) other) ∙ append-nil (bubbles_of (take i ts))
  where
    none : (t : Turn) → ((cause : Cause) → t ≡ Bubble cause → ⊥) → bubbles_from (i + 1) (t ∷ []) ≡ []
    none Done other = nothing_done (i + 1)
    none (Fault m) other = nothing_fault (i + 1) m
    none (Bubble cause) other = absurd (other cause refl)

pub bubble_next : (ts : List Turn) (i : ℕ) (d : Turn) (cause : Cause) → i < length ts → get_or ts i d ≡ Bubble cause → bubbles_of (take (i + 1) ts) ≡ bubbles_of (take i ts) ++ record { cycle = i + 1; cause = cause } ∷ []
bubble_next ts i d cause lt is =
    bubbles_next ts i d lt ∙ ap (λ (t : Turn). bubbles_of (take i ts) ++ bubbles_from (i + 1) (t ∷ [])) is ∙ ap (λ (bs : List BubbleAt). bubbles_of (take i ts) ++ bs) (one_bubble (i + 1) cause)
