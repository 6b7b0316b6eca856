-- Serves clauses text and again of print_schedule: a printed schedule is read again.
use Rattle.std.proofs.Common.{◌≡◌, ℕ, zero, suc, ◌+◌, ◌^◌, ◌<◌, ◌≤◌, Bool, true, false, ◌&&◌, cond, eqb, List, [], ◌∷◌, ◌++◌, length, replicate, map, Some, Ok, refl, sym, ap, subst, ◌∙◌, append_assoc, add-one, arith, rules, drop}
use Rattle.std.specs.Prelude.{nat_le, nat_lt}
use Rattle.std.specs.List.{enumerate_from, AllByRecursion, flat_map, prefix_len}
use Rattle.std.specs.Fmt.{decimal}
use Rattle.std.proofs.lemmas.Bool.{and_parts, eq-eqb, eqb-true, lt-ltb, false≢true}
use Rattle.std.proofs.lemmas.Bool.Decides.{nat_tests}
use Rattle.std.proofs.lemmas.List.{append-nil, length-append, length-replicate}
use lib.Chars.{codes}
use Rattle.strand_base.specs.declared.limits.TheConstants.{MOST_STEPS, MOST_RING, MOST_FLIGHT}
use Rattle.strand_base.specs.Text.{line_text, IsPlainWord, IsPlainLine}
use Rattle.strand_base.proofs.TextAgain.{text_again, decimal_again, decimal_plain}
use Rattle.strand_inputs.specs.declared.step.Step.{Step}
use Rattle.strand_inputs.specs.declared.step.Step.TheVariants as steps
use Rattle.strand_inputs.specs.declared.schedule.RawStep.{RawStep}
use Rattle.strand_inputs.specs.declared.schedule.RawStep.TheVariants as raw
use Rattle.strand_inputs.specs.Fits.{StepFits, IsSchedule}
use Rattle.strand_inputs.specs.Reading.{each_line}
use Rattle.strand_inputs.specs.RawStep.{raw_step_as, raw_step_of, count_of}
use Rattle.strand_inputs.specs.Schedule.{number_below, allowed, times, repeat_of_line, line_added, schedule_of, same_step, onto_repeat, repeats_of, step_words, repeat_words, schedule_text, IsBelow}

-- the words of a repeat's count
abbrev count_words : ℕ → List (List ℕ)
count_words k = cond (nat_le 2 k) (codes "*" ∷ decimal k ∷ []) []

count_again : (k : ℕ) → 1 ≤ k → k < 2 ^ 64 → count_of (count_words k) ≡ Some k
count_again (suc zero) low fits = refl
count_again zero low fits = absurd (omega arith)
count_again (suc (suc k)) low fits =
    let two : nat_le 2 (suc (suc k)) ≡ true = grind (arith, nat_tests) in
    rw (two, decimal_again (suc (suc k)) fits) refl

-- the numbers of a step are small
abbrev StepSmall : Step → Type 0
StepSmall (steps.Core n) = n < 2 ^ 64
StepSmall (steps.Dispatch n) = n < 2 ^ 64
StepSmall (steps.Send n b j) = (n < 2 ^ 64) × (b < 2 ^ 64) × (j < 2 ^ 64)
StepSmall (steps.Write j) = j < 2 ^ 64

abbrev raw_step : Step → RawStep
raw_step (steps.Core n) = raw.Core n
raw_step (steps.Dispatch n) = raw.Dispatch n
raw_step (steps.Send n b j) = raw.Send n b j
raw_step (steps.Write j) = raw.Write j

raw_step_again : (s : Step) (k : ℕ) (ws : List (List ℕ)) → StepSmall s → count_of ws ≡ Some k → raw_step_of (step_words s ++ ws) ≡ Some (raw_step s, k)
unfolding raw_step_as
raw_step_again (steps.Core n) k ws small counted = rw (decimal_again n small, counted) refl
raw_step_again (steps.Dispatch n) k ws small counted = rw (decimal_again n small, counted) refl
raw_step_again (steps.Send n b j) k ws small counted = rw (decimal_again n small.0, decimal_again b small.1, decimal_again j small.2, counted) refl
raw_step_again (steps.Write j) k ws small counted = rw (decimal_again j small, counted) refl

below_ok : (line n bound : ℕ) → n < bound → number_below line n bound ≡ Ok n
below_ok line n bound lt =
    let t : nat_lt n bound ≡ true = lt-ltb _ _ lt in
    rw t refl

allowed_again : (cores buffers line : ℕ) (s : Step) → IsBelow cores buffers s → StepFits s → allowed cores buffers line (raw_step s) ≡ Ok s
allowed_again cores buffers line (steps.Core n) h f = rw (below_ok line n cores h) refl
allowed_again cores buffers line (steps.Dispatch n) h f = rw (below_ok line n cores h) refl
allowed_again cores buffers line (steps.Send n b j) h f = rw (below_ok line n cores h.0, below_ok line b buffers h.1, below_ok line j MOST_RING f) refl
allowed_again cores buffers line (steps.Write j) h f = rw (below_ok line j MOST_FLIGHT f) refl

times_again : (line k : ℕ) → 1 ≤ k → k ≤ MOST_STEPS → times line k ≡ Ok k
times_again line k low high =
    let t : (nat_le 1 k && nat_le k MOST_STEPS) ≡ true = grind (arith, nat_tests) in
    rw t refl

-- what is known of a repeat
record RepeatFits (cores buffers most : ℕ) (r : Step × ℕ) : Type 0 where
  is_below : IsBelow cores buffers r.0
  step_fits : StepFits r.0
  small : StepSmall r.0
  low : 1 ≤ r.1
  high : r.1 ≤ most

repeat_again : (cores buffers line : ℕ) (r : Step × ℕ) → RepeatFits cores buffers MOST_STEPS r → repeat_of_line cores buffers line (repeat_words r) ≡ Ok r
unfolding repeat_of_line
repeat_again cores buffers line r h =
    rw (raw_step_again r.0 r.1 (count_words r.1) h.small (count_again r.1 h.low (omega (arith, h.high))), allowed_again cores buffers line r.0 h.is_below h.step_fits, times_again line r.1 h.low h.high) refl

abbrev pub unrolled : List (Step × ℕ) → List Step
unrolled rs = flat_map (λ r. replicate r.1 r.0) rs

lines_again : (cores buffers n : ℕ) (so_far : List Step) (rs : List (Step × ℕ)) → AllByRecursion (RepeatFits cores buffers MOST_STEPS) rs → length so_far + length (unrolled rs) ≤ MOST_STEPS
    → each_line (line_added cores buffers) so_far (enumerate_from n (map repeat_words rs)) ≡ Ok (so_far ++ unrolled rs)
unfolding each_line line_added
lines_again cores buffers n so_far [] h room = ap (λ (l : List Step). Ok l) (sym (append-nil so_far))
lines_again cores buffers n so_far (r ∷ rs) h room =
    let here : length so_far + r.1 ≤ MOST_STEPS = omega (arith, length-append (replicate r.1 r.0) (unrolled rs), length-replicate r.1 r.0) in
    let t : nat_le (length so_far + r.1) MOST_STEPS ≡ true = grind (arith, nat_tests) in
    let rest = lines_again cores buffers (n + 1) (so_far ++ replicate r.1 r.0) rs h.1 (omega (arith, length-append (replicate r.1 r.0) (unrolled rs), length-append so_far (replicate r.1 r.0))) in
    rw (repeat_again cores buffers n r h.0, t) (rest ∙ ap (λ (l : List Step). Ok l) (append_assoc so_far (replicate r.1 r.0) (unrolled rs)))

send_is : (m n b d j k : ℕ) → (eqb m n ≡ true) × (eqb b d ≡ true) → eqb j k ≡ true → steps.Send m b j ≡ steps.Send n d k
send_is m n b d j k e f =
    let one = eqb-true m n e.0 in
    let two = eqb-true b d e.1 in
    let three = eqb-true j k f in
    cc

same_is : (s t : Step) → same_step s t ≡ true → s ≡ t
same_is (steps.Core m) (steps.Core n) e = ap (λ (x : ℕ). steps.Core x) (eqb-true m n e)
same_is (steps.Dispatch m) (steps.Dispatch n) e = ap (λ (x : ℕ). steps.Dispatch x) (eqb-true m n e)
same_is (steps.Send m b j) (steps.Send n d k) e =
    let parts = and_parts (eqb m n && eqb b d) (eqb j k) e in
    send_is m n b d j k (and_parts (eqb m n) (eqb b d) parts.0) parts.1
same_is (steps.Write j) (steps.Write k) e = ap (λ (x : ℕ). steps.Write x) (eqb-true j k e)
same_is s t e = absurd (false≢true e)

same_refl : (s : Step) → same_step s s ≡ true
same_refl (steps.Core n) = eq-eqb n n refl
same_refl (steps.Dispatch n) = eq-eqb n n refl
same_refl (steps.Send n b j) = rw (eq-eqb n n refl, eq-eqb b b refl, eq-eqb j j refl) refl
same_refl (steps.Write j) = eq-eqb j j refl

unrolled_case : (b : Bool) (s : Step) (r : Step × ℕ) (rs : List (Step × ℕ)) → (b ≡ true → s ≡ r.0) → unrolled (cond b ((s, r.1 + 1) ∷ rs) ((s, 1) ∷ r ∷ rs)) ≡ s ∷ unrolled (r ∷ rs)
unrolled_case true s r rs h = rw add-one (ap (λ (x : Step). s ∷ (replicate r.1 x ++ unrolled rs)) (h refl))
unrolled_case false s r rs h = refl

unrolled_onto : (s : Step) (rs : List (Step × ℕ)) → unrolled (onto_repeat s rs) ≡ s ∷ unrolled rs
unrolled_onto s [] = refl
unrolled_onto s (r ∷ rs) = unrolled_case (same_step s r.0) s r rs (same_is s r.0)

unrolled_repeats : (ss : List Step) → unrolled (repeats_of ss) ≡ ss
unfolding repeats_of
unrolled_repeats [] = refl
unrolled_repeats (s ∷ ss) = unrolled_onto s (repeats_of ss) ∙ ap (λ (l : List Step). s ∷ l) (unrolled_repeats ss)

up_to : (cores buffers n m : ℕ) (rs : List (Step × ℕ)) → n ≤ m → AllByRecursion (RepeatFits cores buffers n) rs → AllByRecursion (RepeatFits cores buffers m) rs
up_to cores buffers n m [] le h = tt
up_to cores buffers n m (r ∷ rs) le h = (record { is_below = h.0.is_below; step_fits = h.0.step_fits; small = h.0.small; low = h.0.low; high = omega (arith, h.0.high) }, up_to cores buffers n m rs le h.1)

small_step : (cores buffers : ℕ) (s : Step) → cores < 2 ^ 32 → buffers < 2 ^ 32 → IsBelow cores buffers s → StepFits s → StepSmall s
small_step cores buffers (steps.Core n) c b h f = omega arith
small_step cores buffers (steps.Dispatch n) c b h f = omega arith
small_step cores buffers (steps.Send n d j) c b h f = (omega (arith, h.0), omega (arith, h.1), omega arith)
small_step cores buffers (steps.Write j) c b h f = omega arith

fits_case : (cores buffers n : ℕ) (b : Bool) (s : Step) (r : Step × ℕ) (rs : List (Step × ℕ)) → IsBelow cores buffers s → StepFits s → StepSmall s → AllByRecursion (RepeatFits cores buffers n) (r ∷ rs)
    → AllByRecursion (RepeatFits cores buffers (n + 1)) (cond b ((s, r.1 + 1) ∷ rs) ((s, 1) ∷ r ∷ rs))
fits_case cores buffers n true s r rs below fits small h =
    (record { is_below = below; step_fits = fits; small = small; low = omega arith; high = omega (arith, h.0.high) }, up_to cores buffers n (n + 1) rs (omega arith) h.1)
fits_case cores buffers n false s r rs below fits small h =
    (record { is_below = below; step_fits = fits; small = small; low = omega arith; high = omega arith }, up_to cores buffers n (n + 1) (r ∷ rs) (omega arith) h)

fits_onto : (cores buffers n : ℕ) (s : Step) (rs : List (Step × ℕ)) → IsBelow cores buffers s → StepFits s → StepSmall s → AllByRecursion (RepeatFits cores buffers n) rs → AllByRecursion (RepeatFits cores buffers (n + 1)) (onto_repeat s rs)
fits_onto cores buffers n s [] below fits small h = (record { is_below = below; step_fits = fits; small = small; low = omega arith; high = omega arith }, tt)
fits_onto cores buffers n s (r ∷ rs) below fits small h = fits_case cores buffers n (same_step s r.0) s r rs below fits small h

repeats_fit : (cores buffers : ℕ) (ss : List Step) → cores < 2 ^ 32 → buffers < 2 ^ 32 → AllByRecursion StepFits ss → AllByRecursion (IsBelow cores buffers) ss → AllByRecursion (RepeatFits cores buffers (length ss)) (repeats_of ss)
unfolding repeats_of
repeats_fit cores buffers [] c b f h = tt
repeats_fit cores buffers (s ∷ ss) c b f h =
    let more : length ss + 1 ≡ suc (length ss) = omega arith in
    let P : ℕ → Type 0 = λ n. AllByRecursion (RepeatFits cores buffers n) (onto_repeat s (repeats_of ss)) in
    subst P more (fits_onto cores buffers (length ss) s (repeats_of ss) h.0 f.0 (small_step cores buffers s c b h.0 f.0) (repeats_fit cores buffers ss c b f.1 h.1))

count_plain : (b : Bool) (k : ℕ) → k < 2 ^ 64 → AllByRecursion IsPlainWord (cond b (codes "*" ∷ decimal k ∷ []) [])
count_plain true k fits = (search rules, (decimal_plain k fits, tt))
count_plain false k fits = tt

repeat_plain : (s : Step) (k : ℕ) → StepSmall s → k < 2 ^ 64 → IsPlainLine (repeat_words (s, k))
repeat_plain (steps.Core n) k small fits = (search rules, (decimal_plain n small, count_plain (nat_le 2 k) k fits))
repeat_plain (steps.Dispatch n) k small fits = (search rules, (decimal_plain n small, count_plain (nat_le 2 k) k fits))
repeat_plain (steps.Send n b j) k small fits = (search rules, (decimal_plain n small.0, (decimal_plain b small.1, (decimal_plain j small.2, count_plain (nat_le 2 k) k fits))))
repeat_plain (steps.Write j) k small fits = (search rules, (decimal_plain j small, count_plain (nat_le 2 k) k fits))

lines_plain : (cores buffers : ℕ) (rs : List (Step × ℕ)) → AllByRecursion (RepeatFits cores buffers MOST_STEPS) rs → AllByRecursion IsPlainLine (map repeat_words rs)
lines_plain cores buffers [] h = tt
lines_plain cores buffers (r ∷ rs) h = (repeat_plain r.0 r.1 h.0.small (omega (arith, h.0.high)), lines_plain cores buffers rs h.1)

pub schedule_again : (cores buffers : ℕ) (ss : List Step) → cores < 2 ^ 32 → buffers < 2 ^ 32 → IsSchedule ss → AllByRecursion (IsBelow cores buffers) ss → schedule_of cores buffers (schedule_text ss) ≡ Ok ss
unfolding schedule_of schedule_text
schedule_again cores buffers ss c b valid below =
    let fits = up_to cores buffers (length ss) MOST_STEPS (repeats_of ss) valid.0 (repeats_fit cores buffers ss c b valid.1 below) in
    let same : length (unrolled (repeats_of ss)) ≡ length ss = ap length (unrolled_repeats ss) in
    rw (text_again (map repeat_words (repeats_of ss)) (lines_plain cores buffers (repeats_of ss) fits)) (lines_again cores buffers 1 [] (repeats_of ss) fits (omega (arith, valid.0)) ∙ ap (λ (l : List Step). Ok l) (unrolled_repeats ss))

-- the first repeat, by its length
front_same : (t : Step) (ts : List Step) → repeats_of (t ∷ ts) ≡ (t, prefix_len (same_step t) ts + 1) ∷ repeats_of (drop (prefix_len (same_step t) ts) ts)
    → repeats_of (t ∷ t ∷ ts) ≡ (t, prefix_len (same_step t) (t ∷ ts) + 1) ∷ repeats_of (drop (prefix_len (same_step t) (t ∷ ts)) (t ∷ ts))
unfolding repeats_of
front_same t ts h =
    let m = prefix_len (same_step t) ts in
    let one : 1 + m ≡ suc m = omega arith in
    let two : m + 1 + 1 ≡ suc m + 1 = omega arith in
    rw (h, same_refl t, one) (ap (λ (n : ℕ). (t, n) ∷ repeats_of (drop m ts)) two)

front_more : (b : Bool) (s t : Step) (ts : List Step) → same_step s t ≡ b → repeats_of (t ∷ ts) ≡ (t, prefix_len (same_step t) ts + 1) ∷ repeats_of (drop (prefix_len (same_step t) ts) ts)
    → repeats_of (s ∷ t ∷ ts) ≡ (s, prefix_len (same_step s) (t ∷ ts) + 1) ∷ repeats_of (drop (prefix_len (same_step s) (t ∷ ts)) (t ∷ ts))
unfolding repeats_of
front_more true s t ts e h =
    subst (λ (x : Step). repeats_of (x ∷ t ∷ ts) ≡ (x, prefix_len (same_step x) (t ∷ ts) + 1) ∷ repeats_of (drop (prefix_len (same_step x) (t ∷ ts)) (t ∷ ts))) (sym (same_is s t e)) (front_same t ts h)
front_more false s t ts e h = rw (h, e) (ap (λ (l : List (Step × ℕ)). (s, 1) ∷ l) (sym h))

pub front_repeat : (s : Step) (ss : List Step) → repeats_of (s ∷ ss) ≡ (s, prefix_len (same_step s) ss + 1) ∷ repeats_of (drop (prefix_len (same_step s) ss) ss)
unfolding repeats_of
front_repeat s [] = refl
front_repeat s (t ∷ ts) = front_more (same_step s t) s t ts refl (front_repeat t ts)

pub text_front : (s : Step) (ss : List Step) → schedule_text (s ∷ ss) ≡ line_text (repeat_words (s, prefix_len (same_step s) ss + 1)) ++ schedule_text (drop (prefix_len (same_step s) ss) ss)
unfolding schedule_text
text_front s ss = rw (front_repeat s ss) refl

pub text_none : schedule_text [] ≡ []
unfolding schedule_text repeats_of
text_none = refl

pub text_repeat : (rest : List Step) (s : Step) (ss : List Step) (m : ℕ) → rest ≡ s ∷ ss → m ≡ prefix_len (same_step s) ss → schedule_text rest ≡ line_text (repeat_words (s, m + 1)) ++ schedule_text (drop m ss)
text_repeat rest s ss m e h = rw (e, h) (text_front s ss)
