-- Serves clause access of Hierarchy::access: one access on the lists of lines that contracts see.
use Rattle.std.proofs.Common.{◌≡◌, ℕ, ◌<◌, Bool, inl, inr, List, [], length, refl, sym, ap, ◌∙◌, arith}
use Rattle.std.specs.Prelude.{map, ◌==◌, ◌%◌, ◌≢◌, slice_index_or, slice_set}
use Rattle.std.specs.List.{list_any}
use Rattle.std.proofs.lemmas.Bool.{cases_eq, ne_eqb}
use Rattle.std.proofs.lemmas.List.{get_or-set_same, get_or-set_other}
use Rattle.std.proofs.Math.ListN.{get_or-map}
use Rattle.strand_exec.specs.Memory.{Memory}
use Rattle.strand_cache.specs.Lists.{lines_after}
use Rattle.strand_cache.proofs.Lists.Step.{step_stands, step_hits}
use Rattle.strand_cache.specs.declared.held_line.HeldLine.{HeldLine}
use Rattle.strand_cache.specs.declared.change.Change.{Change}
use Rattle.strand_cache.specs.declared.counts.Counts.{Counts}
use Rattle.strand_cache.specs.Copies.{row_lines, row_of}
use Rattle.strand_cache.specs.Accesses.{cache_line_of}
use Rattle.strand_cache.specs.Changes.{access_of}
use Rattle.strand_cache.specs.Hits.{shape_of}
use Rattle.strand_cache.specs.Seen.{Seen, lines_seen, IsAccess}
use Rattle.strand_cache.specs.Whole.{group_of}

-- the lines that contracts see are those of the rows
pub lines_is : (groups : List (List (List HeldLine))) (set core : ℕ) → slice_index_or (slice_index_or (map (map row_lines) groups) set []) core [] ≡ row_lines (row_of (group_of groups set) core)
lines_is groups set core = ap (λ g. slice_index_or g core []) (get_or-map (map row_lines) groups set []) ∙ get_or-map row_lines (group_of groups set) core []

abbrev pub seen_of : ℕ → ℕ → ℕ → Memory → List Counts → List (List (List HeldLine)) → Seen
seen_of cores sets ways memory counts groups = record { cores = cores; sets = sets; ways = ways; memory = memory; counts = counts; lines = map (map row_lines) groups }

module _ (cores sets ways : ℕ) (memory memory' : Memory) (counts counts' : List Counts) (groups : List (List (List HeldLine))) (group' : List (List HeldLine)) (core word : ℕ) (change : Change) (hits : Bool)
    (all_sets : length groups ≡ sets) (some_sets : 0 < sets) (some_ways : 0 < ways) (within : core < cores)
    (lines : (c : ℕ) → row_lines (row_of group' c) ≡ lines_after (shape_of sets ways) (access_of core word change) c (cache_line_of word % sets) (row_lines (row_of (group_of groups (cache_line_of word % sets)) c)))
    (hits_is : hits ≡ list_any (λ l. cache_line_of word == l) (row_lines (row_of (group_of groups (cache_line_of word % sets)) core))) where
  abbrev before : Seen
  before = seen_of cores sets ways memory counts groups

  abbrev after : Seen
  after = seen_of cores sets ways memory' counts' (slice_set groups (cache_line_of word % sets) group')

  set_lt : cache_line_of word % sets < length groups
  set_lt = omega arith

  pub lines_step : (c set : ℕ) → c < cores → set < sets → lines_seen after c set ≡ lines_after (shape_of sets ways) (access_of core word change) c set (lines_seen before c set)
  lines_step c set c_lt lt =
      lines_is (slice_set groups (cache_line_of word % sets) group') set c ∙ elim (cases_eq set (cache_line_of word % sets)) [
        | inl e ↦
            ap (λ s. row_lines (row_of (group_of (slice_set groups (cache_line_of word % sets) group') s) c)) e ∙
            ap (λ g. row_lines (row_of g c)) (get_or-set_same groups (cache_line_of word % sets) group' [] set_lt) ∙ lines c ∙
            ap (λ s. lines_after (shape_of sets ways) (access_of core word change) c s (row_lines (row_of (group_of groups s) c))) (sym e)
        | inr ne ↦
            ap (λ g. row_lines (row_of g c)) (get_or-set_other groups (cache_line_of word % sets) set group' [] ne) ∙
            sym (elsewhere set ne (row_lines (row_of (group_of groups set) c)))
      ] ∙ ap (lines_after (shape_of sets ways) (access_of core word change) c set) (sym (lines_is groups set c))
    where
      elsewhere : (s : ℕ) → s ≢ cache_line_of word % sets → (l : List ℕ) → lines_after (shape_of sets ways) (access_of core word change) c s l ≡ l
      elsewhere s ne l = rw (ne_eqb (cache_line_of word % sets) s (λ e. ne (sym e))) refl

  pub access_is : IsAccess before after core word change hits
  access_is xs stand = (
    hits_is ∙ ap (list_any (λ l. cache_line_of word == l)) (sym (lines_is groups (cache_line_of word % sets) core)) ∙
        step_hits (shape_of sets ways) cores (lines_seen before) xs (access_of core word change) some_sets within stand,
    step_stands (shape_of sets ways) cores (lines_seen before) (lines_seen after) xs (access_of core word change) some_ways stand lines_step,
  )
