-- The files of a command, fetched one after the other.
use Rattle.std.specs.Prelude.{◌≡◌, ◌⊎◌, ℕ, zero, suc, ◌<◌, ◌≤◌, List, [], ◌∷◌, ◌++◌, length, IfSome, IfOk, slice_get}
use Rattle.std.specs.declared.option.Option.{Option}
use Rattle.std.specs.declared.result.Result.{Result}
use Rattle.strand_base.specs.FilesSeen.{FilesSeen, Held, IsFile}
use Rattle.strand_base.specs.Counts.{Rose, next}
use Rattle.strand_report.specs.declared.refusal.Refusal.{Refusal}
use Rattle.strand_app.specs.Reads.{Contents, Reads}

-- Where files are told, the first of these names have these contents.
abbrev pub AreFirst : Option Held → List (List ℕ) → Contents → Type 0
AreFirst told names [] = Unit {0}
AreFirst told [] (content ∷ contents) = ⊥
AreFirst told (name ∷ names) (content ∷ contents) = IsFile told name content × AreFirst told names contents

-- so many fetches after a count of them
abbrev pub fetches_after : ℕ → ℕ → ℕ
fetches_after zero count = count
fetches_after (suc n) count = next (fetches_after n count)

module _ (names : List (List ℕ)) (before after : FilesSeen) where
  -- The first files were fetched, each once and in order, no fetch failed, and these are their contents.
  pub record FetchesFirst (contents : Contents) : Type 0 where
    pub first : AreFirst before.told names contents
    pub told : after.told ≡ before.told
    pub quiet : after.faults ≡ before.faults
    pub count : after.fetches ≡ fetches_after (length contents) before.fetches
    pub last_failed : after.last_failed ≡ before.last_failed
    pub untouched : contents ≡ [] → after ≡ before

  -- The fetch of the file behind the first ones failed: the count of faults rose, and the name that is left is that file's.
  pub record FetchFails (contents : Contents) : Type 0 where
    pub first : AreFirst before.told names contents
    pub told : after.told ≡ before.told
    pub later : before.faults ≤ after.faults
    pub rose : Rose before.faults after.faults
    pub count : after.fetches ≡ fetches_after (suc (length contents)) before.fetches
    pub name : IfSome before.told (λ _. after.last_failed ≡ slice_get names (length contents))

  -- No memory was left with the file behind the first ones, which was fetched once more at most.
  pub record FetchesFew (contents : Contents) : Type 0 where
    pub first : AreFirst before.told names contents
    pub told : after.told ≡ before.told
    pub later : before.faults ≤ after.faults
    pub few : (after.fetches ≡ fetches_after (length contents) before.fetches) ⊎ (after.fetches ≡ fetches_after (suc (length contents)) before.fetches)

-- The first files have these contents, and whatever the others hold, this is what they say.
pub record Says {V : Type 0} (names : List (List ℕ)) (reads : Contents → Reads V) (told : Option Held) (contents : Contents) (result : Result V Refusal) : Type 0 where
  pub first : AreFirst told names contents
  pub is : (others : Contents) → reads (contents ++ others) ≡ record { fetches = length contents; result = result }

-- Whatever the files behind the first ones hold, the next of them is fetched.
abbrev pub WantsNext : {V : Type 0} → (Contents → Reads V) → Contents → Type 0
WantsNext reads contents = (others : Contents) → length contents < (reads (contents ++ others)).fetches

module _ {V : Type 0} (names : List (List ℕ)) (reads : Contents → Reads V) (before after : FilesSeen) where
  -- As many files were fetched as were wanted, and this is what they say. Where they are not refused these are all.
  pub record Opened (result : Result V Refusal) : Type 0 where
    pub contents : Contents
    pub says : Says names reads before.told contents result
    pub fetched : FetchesFirst names before after contents
    pub all : IfOk result (λ _. length contents ≡ length names)

  -- The fetch of file k failed, which was wanted.
  pub record Missed (k : ℕ) : Type 0 where
    pub contents : Contents
    pub number : k ≡ suc (length contents)
    pub exists : length contents < length names
    pub wanted : WantsNext reads contents
    pub fails : FetchFails names before after contents

  -- No memory was left on the way.
  pub record Unread : Type 0 where
    pub contents : Contents
    pub wanted : WantsNext reads contents
    pub few : FetchesFew names before after contents
