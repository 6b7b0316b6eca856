-- Serves clause runs of strand_main, for each command: files opened one after the other.
use Rattle.std.proofs.Common.{◌≡◌, ℕ, zero, suc, ◌+◌, ◌<◌, ◌≤◌, List, [], ◌∷◌, ◌++◌, length, length-append, refl, sym, ap, ◌∙◌, arith, inr, subst}
use Rattle.std.specs.Prelude.{Some, Ok, Err, IfOk, IfSome, slice_get}
use Rattle.std.specs.declared.option.Option.{Option}
use Rattle.std.specs.declared.result.Result.{Result}
use Rattle.std.proofs.lemmas.Option.{slice_get_within}
use Rattle.strand_base.specs.Counts.{next}
use Rattle.strand_base.specs.FilesSeen.{FilesSeen, Held, IsFile}
use Rattle.strand_report.specs.declared.refusal.ContentFault.{ContentFault}
use Rattle.strand_report.specs.declared.refusal.Refusal.{Refusal}
use Rattle.strand_app.specs.declared.fetching.OpenFault.{OpenFault}
use Rattle.strand_app.specs.declared.fetching.OpenFault.TheVariants.{Fetch, Refused, OutOfMemory}
use Rattle.strand_app.specs.Fetching.{FetchesOne, FetchGives, FetchesFile}
use Rattle.strand_app.specs.Files.{AreFirst, fetches_after, FetchesFirst, WantsNext, FetchFails, FetchesFew, Opened}
use Rattle.strand_app.specs.Opening.{OpensTo}
use Rattle.strand_app.specs.Reads.{Contents, Reads, in_file, file, then_reads}

-- what is read first is fetched, whatever comes behind it
pub reads_more : {V W : Type 0} (n : ℕ) (result : Result V Refusal) (next : V → Reads W) → n ≤ (then_reads n result next).fetches
reads_more n (Ok value) next = omega arith
reads_more n (Err refused) next = omega arith

-- one content more
are_more : (told : Option Held) (names : List (List ℕ)) (contents : Contents) (name content : List ℕ) → AreFirst told names contents → slice_get names (length contents) ≡ Some name → IsFile told name content
    → AreFirst told names (contents ++ content ∷ [])
are_more told [] [] name content first at is = cc
are_more told (n ∷ names) [] name content first at is = let same : n ≡ name = cc in (subst (λ (m : List ℕ). IsFile told m content) (sym same) is, tt)
are_more told [] (c ∷ contents) name content first at is = absurd first
are_more told (n ∷ names) (c ∷ contents) name content first at is = (first.0, are_more told names contents name content first.1 at is)

-- no file was fetched
pub first_none : (names : List (List ℕ)) (before : FilesSeen) → FetchesFirst names before before []
first_none names before = record { first = tt; told = refl; quiet = refl; count = refl; last_failed = refl; untouched = λ e. refl }

module _ (names : List (List ℕ)) (before between after : FilesSeen) (contents : Contents) (name : List ℕ) (first : FetchesFirst names before between contents) (at : slice_get names (length contents) ≡ Some name)
    (one : FetchesOne between after) where
  long : (content : List ℕ) → length (contents ++ content ∷ []) ≡ suc (length contents)
  long content = length-append contents (content ∷ []) ∙ omega arith

  count_more : after.fetches ≡ fetches_after (suc (length contents)) before.fetches
  count_more = one.count ∙ ap next first.count

  -- one file more was fetched
  pub first_more : (content : List ℕ) → FetchGives name content between after → FetchesFirst names before after (contents ++ content ∷ [])
  first_more content gives = record {
    first = are_more before.told names contents name content first.first at (subst (λ (t : Option Held). IsFile t name content) first.told gives.file);
    told = one.told ∙ first.told;
    quiet = gives.quiet ∙ first.quiet;
    count = count_more ∙ ap (λ (n : ℕ). fetches_after n before.fetches) (sym (long content));
    last_failed = gives.last_failed ∙ first.last_failed;
    untouched = λ e. let none : suc (length contents) ≡ 0 = sym (long content) ∙ ap length e in absurd (omega (arith, none));
  }

  -- what came of it, where it gave nothing
  module _ {V W X Y : Type 0} (reads : Contents → Reads V) (view : W → V) (k : ℕ) (rule : List ℕ → Result X ContentFault) (view_one : Y → X) (number : k ≡ suc (length contents))
      (wanted : WantsNext reads contents)
      (refuses : (content : List ℕ) (refused : Refusal) → in_file k (rule content) ≡ Err refused → (others : Contents) → reads ((contents ++ content ∷ []) ++ others) ≡ record { fetches = length (contents ++ content ∷ []); result = Err refused }) where
    pub fails_next : (fault : OpenFault) → FetchesFile k rule view_one name between after (Err fault) → OpensTo names reads view before after (Err fault)
    fails_next (Refused refused) fetches =
        let is = fetches.1 in
        let more = first_more is.content is.gives in
        record { contents = contents ++ is.content ∷ []; says = record { first = more.first; is = refuses is.content refused is.is }; fetched = more; all = tt }
    fails_next (Fetch j) fetches = record {
      contents = contents;
      number = fetches.1.0 ∙ number;
      exists = slice_get_within names (length contents) name at;
      wanted = wanted;
      fails = record {
        first = first.first;
        told = one.told ∙ first.told;
        later = omega (arith, first.quiet, one.later);
        rose = omega (arith, first.quiet, fetches.1.1.rose);
        count = count_more;
        name = subst (λ (t : Option Held). IfSome t (λ _. after.last_failed ≡ slice_get names (length contents))) first.told
            (subst (λ (found : Option (List ℕ)). IfSome between.told (λ _. after.last_failed ≡ found)) (sym at) fetches.1.1.name_is);
      };
    }
    fails_next OutOfMemory fetches =
        record { contents = contents; wanted = wanted; few = record { first = first.first; told = one.told ∙ first.told; later = omega (arith, first.quiet, one.later); few = inr count_more } }

-- the one file of a command
module _ {V W : Type 0} (rule : List ℕ → Result V ContentFault) (view : W → V) (name : List ℕ) (before after : FilesSeen) where
  pub one_opened : (value : W) → FetchesFile 1 rule view name before after (Ok value) → Opened (name ∷ []) (file 1 rule) before after (Ok (view value))
  one_opened value fetches =
      let more = first_more (name ∷ []) before before after [] name (first_none (name ∷ []) before) refl fetches.0 fetches.1.content fetches.1.gives in
      record {
        contents = fetches.1.content ∷ [];
        says = record { first = more.first; is = λ others. ap (λ (r : Result V ContentFault). record { fetches = 1; result = in_file 1 r }) fetches.1.is };
        fetched = more;
        all = refl;
      }

  pub one_failed : (fault : OpenFault) → FetchesFile 1 rule view name before after (Err fault) → OpensTo (name ∷ []) (file 1 rule) view before after (Err fault)
  one_failed fault fetches =
      fails_next (name ∷ []) before before after [] name (first_none (name ∷ []) before) refl fetches.0 (file 1 rule) view 1 rule view refl (λ others. omega arith)
      (λ content refused is others. ap (λ (r : Result V Refusal). record { fetches = 1; result = r }) is) fault fetches

-- what is decided of files that were read
pub decides : {V W : Type 0} (names : List (List ℕ)) (reads : Contents → Reads V) (next : V → Reads W) (found : V) (before after : FilesSeen) (result : Result W Refusal) → next found ≡ record { fetches = 0; result = result }
    → Opened names reads before after (Ok found) → Opened names (λ contents. then_reads (reads contents).fetches (reads contents).result next) before after result
decides {V} {W} names reads next found before after result is opened = record {
  contents = opened.contents;
  says = record { first = opened.says.first; is = λ others. ap (λ (r : Reads V). then_reads r.fetches r.result next) (opened.says.is others) ∙ behind };
  fetched = opened.fetched;
  all = whole result;
}
  where
    none : length opened.contents + 0 ≡ length opened.contents
    none = omega arith

    behind : ◌≡◌ {A = Reads W} (record { fetches = length opened.contents + (next found).fetches; result = (next found).result }) (record { fetches = length opened.contents; result = result })
    behind = ap (λ (r : Reads W). record { fetches = length opened.contents + r.fetches; result = r.result }) is ∙ ap (λ (n : ℕ). record { fetches = n; result = result }) none

    whole : (result : Result W Refusal) → IfOk result (λ _. length opened.contents ≡ length names)
    whole (Ok decided) = opened.all
    whole (Err refused) = tt

-- the same first files among more names
module _ (names more : List (List ℕ)) (before after : FilesSeen) (contents : Contents) where
  among : (told : Option Held) (names : List (List ℕ)) (contents : Contents) → AreFirst told names contents → AreFirst told (names ++ more) contents
  among told names [] first = tt
  among told [] (c ∷ contents) first = absurd first
  among told (n ∷ names) (c ∷ contents) first = (first.0, among told names contents first.1)

  named : (names : List (List ℕ)) (n : ℕ) → n < length names → slice_get (names ++ more) n ≡ slice_get names n
  named [] n lt = absurd (omega (arith, lt))
  named (name ∷ names) zero lt = refl
  named (name ∷ names) (suc n) lt = named names n (omega (arith, lt))

  pub first_among : FetchesFirst names before after contents → FetchesFirst (names ++ more) before after contents
  first_among first =
      record { first = among before.told names contents first.first; told = first.told; quiet = first.quiet; count = first.count; last_failed = first.last_failed; untouched = first.untouched }

  fails_among : length contents < length names → FetchFails names before after contents → FetchFails (names ++ more) before after contents
  fails_among lt fails = record {
    first = among before.told names contents fails.first;
    told = fails.told;
    later = fails.later;
    rose = fails.rose;
    count = fails.count;
    name = subst (λ (found : Option (List ℕ)). IfSome before.told (λ _. after.last_failed ≡ found)) (sym (named names (length contents) lt)) fails.name;
  }

  few_among : FetchesFew names before after contents → FetchesFew (names ++ more) before after contents
  few_among few = record { first = among before.told names contents few.first; told = few.told; later = few.later; few = few.few }

-- what came of files that were not read to their end, where others are read behind them
module _ {V W X Y : Type 0} (names more : List (List ℕ)) (reads : Contents → Reads V) (next : Contents → V → Reads X) (view : W → V) (view_all : Y → X) (before after : FilesSeen) where
  abbrev all : Contents → Reads X
  all contents = then_reads (reads contents).fetches (reads contents).result (next contents)

  wants_all : (contents : Contents) → WantsNext reads contents → WantsNext all contents
  wants_all contents wanted others = omega (arith, wanted others, reads_more (reads (contents ++ others)).fetches (reads (contents ++ others)).result (next (contents ++ others)))

  pub fails_all : (fault : OpenFault) → OpensTo names reads view before after (Err fault) → OpensTo (names ++ more) all view_all before after (Err fault)
  fails_all (Refused refused) opened = record {
    contents = opened.contents;
    says = record {
      first = (first_among names more before after opened.contents opened.fetched).first;
      is = λ others. ap (λ (r : Reads V). then_reads r.fetches r.result (next (opened.contents ++ others))) (opened.says.is others);
    };
    fetched = first_among names more before after opened.contents opened.fetched;
    all = tt;
  }
  fails_all (Fetch j) missed = record {
    contents = missed.contents;
    number = missed.number;
    exists = omega (arith, missed.exists, length-append names more);
    wanted = wants_all missed.contents missed.wanted;
    fails = fails_among names more before after missed.contents missed.exists missed.fails;
  }
  fails_all OutOfMemory unread = record { contents = unread.contents; wanted = wants_all unread.contents unread.wanted; few = few_among names more before after unread.contents unread.few }
