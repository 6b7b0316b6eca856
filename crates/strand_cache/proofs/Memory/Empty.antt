-- Serves clauses empty and stands of Hierarchy::new: caches that hold no line yet.
use Rattle.std.proofs.Common.{◌≡◌, ℕ, zero, suc, ◌<◌, ◌≤◌, inl, inr, List, [], ◌∷◌, length, Some, None, refl, sym, ap, ◌∙◌, subst, arith}
use Rattle.std.specs.Prelude.{◌%◌, Option, map, replicate, slice_index_or}
use Rattle.std.proofs.lemmas.Bool.{cases_lt}
use Rattle.std.proofs.lemmas.List.{get_or-replicate, get_or_past, length-replicate}
use Rattle.strand_base.specs.declared.limits.TheConstants.{MOST_WAYS}
use Rattle.strand_exec.specs.Memory.{Memory, extents_of, word_in}
use Rattle.strand_exec.specs.Plan.{IsWord}
use Rattle.strand_cache.specs.declared.held_line.HeldLine.{HeldLine}
use Rattle.strand_cache.specs.Copies.{row_lines, owned, row_of}
use Rattle.strand_cache.specs.Backing.{IsApart}
use Rattle.strand_cache.specs.Accesses.{cache_line_of, line_place}
use Rattle.strand_cache.specs.Coherence.{Among, HoldsOnce}
use Rattle.strand_cache.specs.Whole.{group_of, owned_word, flat_value, flat_memory, IsWhole}
use Rattle.strand_cache.proofs.Memory.Whole.{owned_some, flat_extents, flat_word, same_memory}

-- all elements are the one that is also read past them
pub always : {X : Type 0} (n i : ℕ) (x : X) → slice_index_or (replicate n x) i x ≡ x
always zero i x = refl
always (suc n) zero x = refl
always (suc n) (suc i) x = always n i x

abbrev pub no_groups : ℕ → ℕ → List (List (List HeldLine))
no_groups cores sets = replicate sets (replicate cores [])

pub no_row : (cores sets set core : ℕ) → row_of (group_of (no_groups cores sets) set) core ≡ []
no_row cores sets set core = elim (cases_lt set (length (no_groups cores sets))) [
  | inl lt ↦
      let within : set < sets = omega (arith, length-replicate sets (replicate {A = List HeldLine} cores []), lt) in
      ap (λ g. row_of g core) (get_or-replicate sets set (replicate cores []) [] within) ∙ always cores core []
  | inr ge ↦ ap (λ g. row_of g core) (get_or_past (no_groups cores sets) set [] ge)
]

none_owned : (line : ℕ) (rows : List (List HeldLine)) → ((core : ℕ) → row_of rows core ≡ []) → owned line rows ≡ None
none_owned line rows empty = go (owned line rows) refl
  where
    go : (o : Option HeldLine) → owned line rows ≡ o → o ≡ None
    go None e = refl
    go (Some held) e = let f = owned_some line rows held e in absurd (subst (Among held) (empty f.0) f.1)

fresh_shown : (cores sets : ℕ) (backing : Memory) (word : ℕ) → flat_value sets (no_groups cores sets) backing word ≡ word_in backing word
fresh_shown cores sets backing word =
    ap (λ o. owned_word o (line_place word) (word_in backing word)) (none_owned (cache_line_of word) (group_of (no_groups cores sets) (cache_line_of word % sets)) (no_row cores sets (cache_line_of word % sets)))

pub fresh_whole : (cores sets ways : ℕ) (backing : Memory) → 0 < sets → 0 < ways → ways ≤ MOST_WAYS → IsWhole cores sets ways (no_groups cores sets) backing
fresh_whole cores sets ways backing some some_ways few = record {
  all_sets = length-replicate sets (replicate cores []);
  rows = λ set lt. ap length (get_or-replicate sets set (replicate cores []) [] lt) ∙ length-replicate cores [];
  some_sets = some;
  some_ways = some_ways;
  few_ways = few;
  coheres = λ set lt. record {
    short = λ core. subst (λ row. length row ≤ ways) (sym (no_row cores sets set core)) (omega arith);
    placed = λ core held a. absurd (subst (Among held) (no_row cores sets set core) a);
    once = λ core. subst HoldsOnce (sym (no_row cores sets set core)) tt;
    sole = λ core other held copy a b e l. absurd (subst (Among held) (no_row cores sets set core) a);
    agree = λ core held a word is at. absurd (subst (Among held) (no_row cores sets set core) a);
    free = λ word is of_set none. sym (fresh_shown cores sets backing word);
  };
}

pub fresh_memory : (cores sets : ℕ) (backing : Memory) → IsApart backing → flat_memory sets (no_groups cores sets) backing ≡ backing
fresh_memory cores sets backing few =
    let low : IsApart (flat_memory sets (no_groups cores sets) backing) = record { apart = omega (arith, few.apart, ap (λ x. x.volatile) (flat_extents sets (no_groups cores sets) backing)); small = omega (arith, few.small, ap (λ x. x.persistent) (flat_extents sets (no_groups cores sets) backing)) } in
    same_memory (flat_memory sets (no_groups cores sets) backing) backing low (flat_extents sets (no_groups cores sets) backing) (λ word is.
    let here : IsWord (extents_of backing) word = subst (λ x. IsWord x word) (flat_extents sets (no_groups cores sets) backing) is in
    flat_word sets (no_groups cores sets) backing word few here ∙ fresh_shown cores sets backing word)

map_replicate : {X Y : Type 0} (f : X → Y) (n : ℕ) (x : X) → map f (replicate n x) ≡ replicate n (f x)
map_replicate f zero x = refl
map_replicate f (suc n) x = ap (λ l. f x ∷ l) (map_replicate f n x)

pub fresh_lines : (cores sets : ℕ) → map (map row_lines) (no_groups cores sets) ≡ replicate sets (replicate cores [])
fresh_lines cores sets = map_replicate (map row_lines) sets (replicate cores []) ∙ ap (replicate sets) (map_replicate row_lines cores [])
