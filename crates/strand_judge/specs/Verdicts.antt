-- What a verdict says.
use Rattle.std.specs.Prelude.{◌≡◌, ℕ, ◌<◌, true, List, length, slice_index}
use Rattle.strand_inputs.specs.declared.mode.Mode.{Mode}
use Rattle.strand_base.specs.Counting.{count_below}
use Rattle.strand_events.specs.declared.event.Event.{Event}
use Rattle.strand_events.specs.Trace.{persists_of}
use Rattle.strand_events.specs.Order.{Set, sets_word}
use Rattle.strand_events.specs.Numbers.{numbers_of}
use Rattle.strand_judge.specs.Judged.{Crash, Agrees, IsJudged, IsLeastJudged, IsLeastSettled}
use Rattle.strand_judge.specs.declared.verdict.Verdict.{Verdict}
use Rattle.strand_judge.specs.declared.verdict.Verdict.TheVariants.{Yes, No}

-- the list is that of the least judged set
pub record IsLeastList (mode : Mode) (t : List Event) (crash : Crash) (list : List ℕ) : Type 0 where
  pub set : Set
  pub least : IsLeastJudged mode t crash set
  pub list_is : list ≡ numbers_of t set

-- the least word at which the set's image differs from the crash image
pub record IsFirstDifference (t : List Event) (crash : Crash) (set : Set) (word : ℕ) : Type 0 where
  pub has : crash.has word ≡ true
  pub differs : Agrees t crash set word → ⊥
  pub first : (other : ℕ) → other < word → crash.has other ≡ true → Agrees t crash set other

-- word is the first at which the least settled set differs, and rank the persists to it in that set
pub record IsRefuted (mode : Mode) (t : List Event) (crash : Crash) (word rank : ℕ) : Type 0 where
  pub set : Set
  pub least : IsLeastSettled mode t crash set
  pub at : IsFirstDifference t crash set word
  pub rank_is : rank ≡ count_below (length t) (sets_word t set word)

-- a yes has the least judged set
abbrev pub SaysYes : Mode → List Event → Crash → Verdict → Type 0
SaysYes mode t crash (Yes list) = IsLeastList mode t crash list
SaysYes mode t crash (No word rank) = Unit {0}

-- a no comes where no set is judged
abbrev pub SaysNo : Mode → List Event → Crash → Verdict → Type 0
SaysNo mode t crash (Yes list) = Unit {0}
SaysNo mode t crash (No word rank) = ((set : Set) → IsJudged mode t crash set → ⊥)

-- and it names a word and a rank
abbrev pub NamesWord : Mode → List Event → Crash → Verdict → Type 0
NamesWord mode t crash (Yes list) = Unit {0}
NamesWord mode t crash (No word rank) = IsRefuted mode t crash word rank

-- what the judge says of a crash image
pub record IsVerdict (mode : Mode) (t : List Event) (crash : Crash) (verdict : Verdict) : Type 0 where
  pub yes : SaysYes mode t crash verdict
  pub no : SaysNo mode t crash verdict
  pub word : NamesWord mode t crash verdict

-- a yes whose list has persists of the set alone, by their numbers
pub record IsYesWithin (t : List Event) (set : Set) (verdict : Verdict) : Type 0 where
  pub list : List ℕ
  pub is : verdict ≡ Yes list
  pub numbers : (k : ℕ) → k < length list → slice_index list k < length (persists_of t)
  pub members : (k : ℕ) → k < length list → set (slice_index (persists_of t) (slice_index list k)) ≡ true
