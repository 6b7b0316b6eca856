-- Serves clause no_command of strand_main, for again: which words are pairs of a schedule and a stop.
use Rattle.std.proofs.Common.{◌≡◌, ◌∙◌, ◌==◌, ℕ, ◌*◌, ◌-◌, ◌<◌, ◌≤◌, true, false, nat_le, List, [], ◌∷◌, length, map, take, drop, get_or, refl, sym, ap, arith}
use Rattle.std.proofs.lemmas.Bool.Decides.{nat_tests}
use Rattle.std.specs.Prelude.{Some, None, String, string_bytes}
use Rattle.std.specs.Option.{is_none, is_some, option_and_then, option_map, unwrap_or}
use Rattle.std.specs.declared.alloc.Global.{Global}
use Rattle.std.proofs.lemmas.List.{take_all}
use Rattle.std.specs.declared.option.Option.{Option}
use Rattle.strand_inputs.specs.Stop.{stop_of}
use Rattle.strand_inputs.specs.declared.stop.Stop.{Stop}
use Rattle.strand_inputs.specs.declared.stop.Stop.TheVariants.{End}
use Rattle.strand_app.specs.declared.again_words.TheConstants.{MOST_GENERATIONS}
use Rattle.strand_app.specs.Command.{Pair, again, few_pairs, generations, pairs_of, with_pair}
use Rattle.strand_app.specs.CommandView.{pairs_in}

-- the pairs that words are
pub record ArePairs (words : List (List ℕ)) (pairs : List Pair) : Type 0 where
  pub long : length words ≡ 2 * length pairs
  pub same : pairs ≡ pairs_in words

more_pairs : (schedule stop : List ℕ) (words : List (List ℕ)) (s : Option Stop) (found : Option (List Pair)) (pairs : List Pair) → stop_of stop ≡ s
    → ((rest : List Pair) → found ≡ Some rest → ArePairs words rest) → option_and_then (λ x. option_map (with_pair schedule x) found) s ≡ Some pairs → ArePairs (schedule ∷ stop ∷ words) pairs
more_pairs schedule stop words None found pairs is behind some = cc
more_pairs schedule stop words (Some s) None pairs is behind some = cc
more_pairs schedule stop words (Some s) (Some rest) pairs is behind some =
    let rest_are = behind rest refl in
    let pairs_are : with_pair schedule s rest ≡ pairs = cc in
    record {
      long = omega (arith, rest_are.long, ap length pairs_are);
      same = sym pairs_are ∙ ap (with_pair schedule s) rest_are.same ∙ ap (λ (x : Option Stop). with_pair schedule (unwrap_or x End) (pairs_in words)) (sym is);
    }

pub are_pairs : (words : List (List ℕ)) (pairs : List Pair) → pairs_of words ≡ Some pairs → ArePairs words pairs
are_pairs [] [] some = record { long = refl; same = refl }
are_pairs [] (p ∷ pairs) some = cc
are_pairs (schedule ∷ []) pairs some = cc
are_pairs (schedule ∷ stop ∷ words) pairs some = more_pairs schedule stop words (stop_of stop) (pairs_of words) pairs refl (are_pairs words) some

-- one word alone is no pair
pub none_in : (words : List (List ℕ)) → length words < 2 → pairs_in words ≡ []
none_in [] few = refl
none_in (word ∷ []) few = refl
none_in (word ∷ other ∷ words) few = absurd (omega (arith, few))

is_none_of : (s : Option Stop) → is_none s ≡ false → (more : Stop → Option (List Pair)) (rest : Option (List Pair)) → ((x : Stop) → is_some (more x) ≡ is_some rest) → is_some (option_and_then more s) ≡ is_some rest
is_none_of None is more rest same = cc
is_none_of (Some x) is more rest same = same x

mapped : (f : List Pair → List Pair) (rest : Option (List Pair)) → is_some (option_map f rest) ≡ is_some rest
mapped f None = refl
mapped f (Some rest) = refl

-- behind a pair whose stop is one, the others decide
pub behind_pair : (words : List (String Global)) (stop : String Global) → stop ≡ get_or words 1 stop → 2 ≤ length words → is_none (stop_of (string_bytes stop)) ≡ false
    → is_some (pairs_of (map string_bytes (take (length words - 2) (drop 2 words)))) ≡ is_some (pairs_of (map string_bytes words))
behind_pair [] stop at many is = absurd (omega (arith, many))
behind_pair (a ∷ []) stop at many is = absurd (omega (arith, many))
behind_pair (a ∷ b ∷ words) stop at many is =
    let whole = take_all (length (a ∷ b ∷ words) - 2) words (omega arith) in
    let here : is_none (stop_of (string_bytes b)) ≡ false = ap (λ (s : String Global). is_none (stop_of (string_bytes s))) (sym at) ∙ is in
    ap (λ (w : List (String Global)). is_some (pairs_of (map string_bytes w))) whole
    ∙ sym (is_none_of (stop_of (string_bytes b)) here (λ x. option_map (with_pair (string_bytes a) x) (pairs_of (map string_bytes words))) (pairs_of (map string_bytes words)) (λ x. mapped (with_pair (string_bytes a) x) (pairs_of (map string_bytes words))))

pub last_pair : (words : List (String Global)) → length words < 2 → (length words == 0) ≡ is_some (pairs_of (map string_bytes words))
last_pair [] few = refl
last_pair (a ∷ []) few = refl
last_pair (a ∷ b ∷ words) few = absurd (omega (arith, few))

-- the command of generations, by the words behind its own
pub generations_of : (words : List (String Global)) (machine image : String Global) → machine ≡ get_or words 0 machine → image ≡ get_or words 1 image → 2 ≤ length words
    → generations (map string_bytes words) ≡ option_and_then (few_pairs (string_bytes machine) (string_bytes image)) (pairs_of (map string_bytes (take (length words - 2) (drop 2 words))))
generations_of [] machine image first second many = absurd (omega (arith, many))
generations_of (a ∷ []) machine image first second many = absurd (omega (arith, many))
generations_of (a ∷ b ∷ words) machine image first second many =
    let whole = take_all (length (a ∷ b ∷ words) - 2) words (omega arith) in
    ap (λ (w : List (String Global)). option_and_then (few_pairs (string_bytes a) (string_bytes b)) (pairs_of (map string_bytes w))) (sym whole)
    ∙ ap (λ (m : String Global). option_and_then (few_pairs (string_bytes m) (string_bytes b)) (pairs_of (map string_bytes (take (length (a ∷ b ∷ words) - 2) words)))) (sym first)
    ∙ ap (λ (i : String Global). option_and_then (few_pairs (string_bytes machine) (string_bytes i)) (pairs_of (map string_bytes (take (length (a ∷ b ∷ words) - 2) words)))) (sym second)

pub no_generations : (words : List (String Global)) → length words < 2 → generations (map string_bytes words) ≡ None
no_generations [] few = refl
no_generations (a ∷ []) few = refl
no_generations (a ∷ b ∷ words) few = absurd (omega (arith, few))

module _ (machine image : List ℕ) (words : List (List ℕ)) where
  too_few : (pairs : List Pair) → length pairs < 1 → few_pairs machine image pairs ≡ None
  too_few pairs few = let low : nat_le 1 (length pairs) ≡ false = grind (arith, nat_tests, few) in rw low refl

  too_many : (pairs : List Pair) → MOST_GENERATIONS < length pairs → few_pairs machine image pairs ≡ None
  too_many pairs many =
      let low : nat_le 1 (length pairs) ≡ true = grind (arith, nat_tests, many) in
      let high : nat_le (length pairs) MOST_GENERATIONS ≡ false = grind (arith, nat_tests, many) in
      rw (low, high) refl

  as_many : (pairs : List Pair) → 1 ≤ length pairs → length pairs ≤ MOST_GENERATIONS → few_pairs machine image pairs ≡ Some (again machine image pairs)
  as_many pairs some few =
      let low : nat_le 1 (length pairs) ≡ true = grind (arith, nat_tests, some) in
      let high : nat_le (length pairs) MOST_GENERATIONS ≡ true = grind (arith, nat_tests, few) in
      rw (low, high) refl

  -- too few words or too many
  pub none_few : length words < 2 → option_and_then (few_pairs machine image) (pairs_of words) ≡ None
  none_few few = go (pairs_of words) refl
    where
      go : (found : Option (List Pair)) → pairs_of words ≡ found → option_and_then (few_pairs machine image) found ≡ None
      go None is = refl
      go (Some pairs) is = too_few pairs (omega (arith, (are_pairs words pairs is).long, few))

  pub none_many : 2 * MOST_GENERATIONS < length words → option_and_then (few_pairs machine image) (pairs_of words) ≡ None
  none_many many = go (pairs_of words) refl
    where
      go : (found : Option (List Pair)) → pairs_of words ≡ found → option_and_then (few_pairs machine image) found ≡ None
      go None is = refl
      go (Some pairs) is = too_many pairs (omega (arith, (are_pairs words pairs is).long, many))

  -- words that are no pairs
  pub none_pairs : is_some (pairs_of words) ≡ false → option_and_then (few_pairs machine image) (pairs_of words) ≡ None
  none_pairs none = go (pairs_of words) none
    where
      go : (found : Option (List Pair)) → is_some found ≡ false → option_and_then (few_pairs machine image) found ≡ None
      go None is = refl
      go (Some pairs) is = cc

  pub some_pairs : is_some (pairs_of words) ≡ true → 2 ≤ length words → length words ≤ 2 * MOST_GENERATIONS → option_and_then (few_pairs machine image) (pairs_of words) ≡ Some (again machine image (pairs_in words))
  some_pairs some low high = go (pairs_of words) refl some
    where
      go : (found : Option (List Pair)) → pairs_of words ≡ found → is_some found ≡ true → option_and_then (few_pairs machine image) found ≡ Some (again machine image (pairs_in words))
      go None is none = cc
      go (Some pairs) is some =
          let they = are_pairs words pairs is in
          as_many pairs (omega (arith, they.long, low)) (omega (arith, they.long, high)) ∙ ap (λ (p : List Pair). Some (again machine image p)) they.same
