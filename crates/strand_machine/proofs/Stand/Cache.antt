-- Serves clause parts of Machine::new and step: the caches stand for the state, also after an instruction.
use Rattle.std.proofs.Common.{◌≡◌, ℕ, suc, ◌<◌, ◌≤◌, ◌^◌, Bool, true, false, ◌&&◌, inl, inr, List, [], ◌∷◌, ◌++◌, length, map, refl, sym, ap, subst, ◌∙◌, arith}
use Rattle.std.specs.Prelude.{◌==◌, ◌≢◌, not, slice_get, slice_set, slice_index_or, Some, None, if◌then◌else◌}
use Rattle.std.specs.declared.option.Option.{Option}
use Rattle.std.specs.List.{filter, range_with_len}
use Rattle.std.proofs.lemmas.Bool.{cases_eq, eq-eqb, ne_eqb}
use Rattle.std.proofs.lemmas.List.{append-nil, ext_get_or, get_or-set_other, get_or-set_same, length-map, length-set, map-append}
use Rattle.std.proofs.lemmas.List.Elements.{filter-append}
use Rattle.std.proofs.lemmas.List.Sums.{count_by-le-length, length-filter}
use Rattle.std.proofs.lemmas.List.FromFn.{get_or-map-range_with_len, length-map-range_with_len, length-range_with_len}
use Rattle.std.proofs.lemmas.Simd.{splat_is_map}
use Rattle.strand_inputs.specs.Settings.{Settings}
use Rattle.strand_exec.specs.Core as cores
use Rattle.strand_exec.specs.Memory.{Memory}
use Rattle.strand_exec.specs.declared.planned.Plan.{Plan}
use Rattle.strand_exec.specs.declared.planned.Plan.TheVariants.{Plain, Load, Store, Barrier, NewStrand, Join, Out, Halt, Trap}
use Rattle.strand_events.specs.declared.event.Event.{Event}
use Rattle.strand_events.specs.declared.event.Event.TheVariants as events
use Rattle.strand_events.specs.Trace.{is_access}
use Rattle.strand_events.proofs.TraceInvariant.{count_most}
use Rattle.strand_rules.specs.Visible.{Program, Visible, event_of, with_event, memory_after, moved_by, moved_in, next_plan, plan_by, plan_in, retire}
use Rattle.strand_rules.specs.Cycle.{State, start_at}
use Rattle.strand_cache.specs.declared.change.Change.{Change}
use Rattle.strand_cache.specs.declared.change.Change.TheVariants.{Read, Merge}
use Rattle.strand_cache.specs.declared.counts.Counts.{Counts}
use Rattle.strand_cache.specs.Accesses.{LineAccess, core_at}
use Rattle.strand_cache.specs.Changes as changes
use Rattle.strand_cache.specs.Changes.{access_of}
use Rattle.strand_cache.specs.Hits.{Shape, hit, shape_of}
use Rattle.strand_cache.specs.Seen.{Seen, CachesStand, access_counted, empty_caches, none_counted, one_more}
use Rattle.strand_cache.specs.Totals.{hits_of, misses_of}
use Rattle.strand_cache.proofs.Lists.Totals.{hits_step, misses_step}
use Rattle.strand_machine.specs.Cached.{CacheStands, accesses_of, core_counts, line_access}
use Rattle.strand_machine.specs.Changed.{GoesThrough, IsCached}

-- the accesses of a longer trace
pub accesses_more : (t : List Event) (e : Event) → is_access e ≡ true → accesses_of (t ++ e ∷ []) ≡ accesses_of t ++ line_access e ∷ []
accesses_more t e yes_ =
    let kept : filter is_access (t ++ e ∷ []) ≡ filter is_access t ++ e ∷ [] = filter-append is_access t (e ∷ []) ∙ ap (λ b. filter is_access t ++ (if b then e ∷ [] else [])) yes_ in
    ap (map line_access) kept ∙ map-append line_access (filter is_access t) (e ∷ [])

pub accesses_same : (t : List Event) (e : Event) → is_access e ≡ false → accesses_of (t ++ e ∷ []) ≡ accesses_of t
accesses_same t e no_ =
    ap (map line_access) (filter-append is_access t (e ∷ []) ∙ ap (λ b. filter is_access t ++ (if b then e ∷ [] else [])) no_ ∙ append-nil (filter is_access t))

few_accesses : (t : List Event) → length (accesses_of t) ≤ length t
few_accesses t = omega (arith, length-map (filter is_access t) line_access, length-filter is_access t, count_by-le-length is_access t)

-- what a core's accesses of a list are counted as
abbrev totals : Shape → List LineAccess → ℕ → Counts
totals shape xs n = record { hits = hits_of shape n xs; misses = misses_of shape n xs }

module _ (shape : Shape) (xs : List LineAccess) (x : LineAccess) (hits : Bool) (hits_is : hits ≡ hit shape (xs ++ x ∷ []) (length xs)) (few : length xs < 2 ^ 32) where
  one_hit : one_more (hits_of shape x.core xs) ≡ suc (hits_of shape x.core xs)
  one_hit = let most = count_most (length xs) (λ j. (core_at xs j == x.core) && hit shape xs j) in omega (arith, most, few)

  one_miss : one_more (misses_of shape x.core xs) ≡ suc (misses_of shape x.core xs)
  one_miss = let most = count_most (length xs) (λ j. (core_at xs j == x.core) && not (hit shape xs j)) in omega (arith, most, few)

  counted_by : (own yes_ : Bool) (a b : ℕ) → one_more a ≡ suc a → one_more b ≡ suc b → own ≡ true
      → access_counted yes_ (record { hits = a; misses = b }) ≡ record { hits = if own && yes_ then suc a else a; misses = if own && not yes_ then suc b else b }
  counted_by own true a b hit_ miss is = rw is (λ i. record { hits = hit_ i; misses = b })
  counted_by own false a b hit_ miss is = rw is (λ i. record { hits = a; misses = miss i })

  -- the counts of the access's core
  counts_own : access_counted hits (totals shape xs x.core) ≡ totals shape (xs ++ x ∷ []) x.core
  counts_own =
      let step = counted_by (x.core == x.core) (hit shape (xs ++ x ∷ []) (length xs)) (hits_of shape x.core xs) (misses_of shape x.core xs) one_hit one_miss (eq-eqb x.core x.core refl) in
      ap (λ h. access_counted h (totals shape xs x.core)) hits_is ∙ step ∙ (λ i. record { hits = sym (hits_step shape x.core xs x) i; misses = sym (misses_step shape x.core xs x) i })

  -- and those of another core
  counts_other : (n : ℕ) → n ≢ x.core → totals shape xs n ≡ totals shape (xs ++ x ∷ []) n
  counts_other n ne =
      let other : (x.core == n) ≡ false = ne_eqb x.core n (λ e. ne (sym e)) in
      let hit_ = hit shape (xs ++ x ∷ []) (length xs) in
      let same_hits : hits_of shape n xs ≡ hits_of shape n (xs ++ x ∷ []) = sym (hits_step shape n xs x ∙ ap (λ b. if b && hit_ then suc (hits_of shape n xs) else hits_of shape n xs) other) in
      let same_misses : misses_of shape n xs ≡ misses_of shape n (xs ++ x ∷ []) = sym (misses_step shape n xs x ∙ ap (λ b. if b && not hit_ then suc (misses_of shape n xs) else misses_of shape n xs) other) in
      λ i. record { hits = same_hits i; misses = same_misses i }

  abbrev all_totals : List LineAccess → ℕ → List Counts
  all_totals ys count = map (totals shape ys) (range_with_len 0 count)

  at : (ys : List LineAccess) (count n : ℕ) → n < count → slice_index_or (all_totals ys count) n none_counted ≡ totals shape ys n
  at ys count n lt = get_or-map-range_with_len (totals shape ys) 0 count n n none_counted lt (omega arith)

  pub counts_step : (count : ℕ) → x.core < count → slice_set (all_totals xs count) x.core (access_counted hits (slice_index_or (all_totals xs count) x.core none_counted)) ≡ all_totals (xs ++ x ∷ []) count
  counts_step count there =
      let new : Counts = access_counted hits (slice_index_or (all_totals xs count) x.core none_counted) in
      let size : length (all_totals xs count) ≡ count = length-map-range_with_len (totals shape xs) 0 count in
      let longer : length (slice_set (all_totals xs count) x.core new) ≡ count = length-set (all_totals xs count) x.core new ∙ size in
      ext_get_or none_counted (slice_set (all_totals xs count) x.core new) (all_totals (xs ++ x ∷ []) count)
      (longer ∙ sym (length-map-range_with_len (totals shape (xs ++ x ∷ [])) 0 count))
      (λ i lt.
      let below : i < count = omega (arith, lt, longer) in
      (elim (cases_eq i x.core) [
        | inl e ↦
            ap (λ i. slice_index_or (slice_set (all_totals xs count) x.core new) i none_counted) e
            ∙ get_or-set_same (all_totals xs count) x.core new none_counted (omega (arith, there, size))
            ∙ ap (access_counted hits) (at xs count x.core there) ∙ counts_own
            ∙ sym (ap (λ i. slice_index_or (all_totals (xs ++ x ∷ []) count) i none_counted) e ∙ at (xs ++ x ∷ []) count x.core there)
        | inr ne ↦ get_or-set_other (all_totals xs count) x.core i new none_counted ne ∙ at xs count i below ∙ counts_other i ne ∙ sym (at (xs ++ x ∷ []) count i below)
      ]))

-- caches that stay stand for a state with the same cores, memory and accesses
pub cache_kept : (g : Settings) (s s' : State) (cache cache' : Seen) → CacheStands g s cache → cache' ≡ cache → length s'.now.cores ≡ length s.now.cores → s'.now.memory ≡ s.now.memory
    → accesses_of s'.now.trace ≡ accesses_of s.now.trace → CacheStands g s' cache'
cache_kept g s s' cache cache' stand same count memory accesses = subst (CacheStands g s') (sym same) (record {
  cores = stand.cores ∙ sym count;
  shape = stand.shape;
  memory = stand.memory ∙ sym memory;
  accesses = subst (CachesStand cache) (sym accesses) stand.accesses;
  counts = stand.counts ∙ ap (λ n. map (core_counts g s.now.trace) (range_with_len 0 n)) (sym count)
      ∙ ap (λ xs. map (totals (shape_of g.sets g.ways) xs) (range_with_len 0 (length s'.now.cores))) (sym accesses);
})

-- one access more
cache_more : (g : Settings) (s s' : State) (cache cache' : Seen) (n word : ℕ) (change : Change) (e : Event) → CacheStands g s cache → IsCached cache cache' n word change → n < length s.now.cores → length s.now.trace < 2 ^ 32
    → length s'.now.cores ≡ length s.now.cores → s'.now.memory ≡ changes.memory_after change word s.now.memory → s'.now.trace ≡ s.now.trace ++ e ∷ [] → is_access e ≡ true → line_access e ≡ access_of n word change
    → CacheStands g s' cache'
cache_more g s s' cache cache' n word change e stand made there few count memory trace access line =
    let xs : List LineAccess = accesses_of s.now.trace in
    let x : LineAccess = access_of n word change in
    let shape : Shape = shape_of g.sets g.ways in
    let hits : Bool = made.hits in
    let most = few_accesses s.now.trace in
    let longer : accesses_of s'.now.trace ≡ xs ++ x ∷ [] = ap accesses_of trace ∙ accesses_more s.now.trace e access ∙ ap (λ y. xs ++ y ∷ []) line in
    let ends = made.access xs stand.accesses in
    let hits_is : hits ≡ hit shape (xs ++ x ∷ []) (length xs) = ends.0 ∙ ap (λ y. hit y (xs ++ x ∷ []) (length xs)) stand.shape in
    record {
      cores = made.cores ∙ stand.cores ∙ sym count;
      shape = made.shape ∙ stand.shape;
      memory = made.memory ∙ ap (changes.memory_after change word) stand.memory ∙ sym memory;
      accesses = subst (CachesStand cache') (sym longer) ends.1;
      counts = made.counts
          ∙ ap (λ cs. slice_set cs n (access_counted hits (slice_index_or cs n none_counted))) stand.counts
          ∙ counts_step shape xs x hits hits_is (omega (arith, most, few)) (length s.now.cores) there
          ∙ ap (λ k. map (totals shape (xs ++ x ∷ [])) (range_with_len 0 k)) (sym count)
          ∙ ap (λ ys. map (totals shape ys) (range_with_len 0 (length s'.now.cores))) (sym longer);
    }

-- after an instruction that asks this, the caches that it went through stand for the state
module _ (g : Settings) (s s' : State) (cache cache' : Seen) (n : ℕ) (stand : CacheStands g s cache) (there : n < length s.now.cores) (few : length s.now.trace < 2 ^ 32) (count : length s'.now.cores ≡ length s.now.cores) where
  still : (o : Option Event) → accesses_of (with_event s.now.trace o) ≡ accesses_of s.now.trace → cache' ≡ cache → s'.now.memory ≡ s.now.memory → s'.now.trace ≡ with_event s.now.trace o → CacheStands g s' cache'
  still o none same memory trace = cache_kept g s s' cache cache' stand same count memory (ap accesses_of trace ∙ none)

  pub cache_after : (asked : Plan) → GoesThrough cache cache' n asked → s'.now.memory ≡ memory_after s.now.memory asked → s'.now.trace ≡ with_event s.now.trace (event_of n s.now.memory asked) → CacheStands g s' cache'
  cache_after (Load word) made memory trace = cache_more g s s' cache cache' n word Read (events.Load n word) stand made there few count memory trace refl refl
  cache_after (Store word mask bits) made memory trace = cache_more g s s' cache cache' n word (Merge mask bits) _ stand made there few count memory trace refl refl
  cache_after Plain made memory trace = still None refl made memory trace
  cache_after Barrier made memory trace = still (Some (events.Barrier n)) (accesses_same s.now.trace (events.Barrier n) refl) made memory trace
  cache_after NewStrand made memory trace = still (Some (events.NewStrand n)) (accesses_same s.now.trace (events.NewStrand n) refl) made memory trace
  cache_after Join made memory trace = still (Some (events.Join n)) (accesses_same s.now.trace (events.Join n) refl) made memory trace
  cache_after (Out value) made memory trace = still (Some (events.Out n value)) (accesses_same s.now.trace (events.Out n value) refl) made memory trace
  cache_after Halt made memory trace = still None refl made memory trace
  cache_after (Trap trap) made memory trace = still None refl made memory trace

-- the memory after a core retired its next instruction
abbrev memory_by : Memory → Option Plan → Memory
memory_by memory None = memory
memory_by memory (Some asked) = memory_after memory asked

moved_memory : (p : Program) (v : Visible) (n : ℕ) (core : cores.Core) (asked : Option Plan) → (moved_by p v n core asked).memory ≡ memory_by v.memory asked
moved_memory p v n core None = refl
moved_memory p v n core (Some _) = refl

found_memory : (p : Program) (v : Visible) (n : ℕ) (core : Option cores.Core) → (moved_in p v n core).memory ≡ memory_by v.memory (plan_in p core)
found_memory p v n None = refl
found_memory p v n (Some core) = moved_memory p v n core (plan_by p core core.life)

pub retired_memory : (p : Program) (v : Visible) (n : ℕ) (asked : Plan) → next_plan p v n ≡ Some asked → (retire p v n).memory ≡ memory_after v.memory asked
unfolding retire
retired_memory p v n asked is = found_memory p v n (slice_get v.cores n) ∙ ap (memory_by v.memory) is

-- caches without lines stand for the state before the first step
pub cache_start : (g : Settings) (cs : List cores.Core) (memory : Memory) → CachesStand (empty_caches (length cs) g.sets g.ways memory.volatile memory.persistent) []
    → CacheStands g (start_at cs memory) (empty_caches (length cs) g.sets g.ways memory.volatile memory.persistent)
cache_start g cs memory stand = record {
  cores = refl;
  shape = refl;
  memory = refl;
  accesses = stand;
  counts = splat_is_map (range_with_len 0 (length cs)) (length cs) none_counted (length-range_with_len 0 (length cs));
}
