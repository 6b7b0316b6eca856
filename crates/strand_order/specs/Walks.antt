-- A walk back along links, and what it gives.
use Rattle.std.specs.Prelude.{◌≡◌, ℕ, ◌<◌, ◌≤◌, Bool, true, List, slice_index, reverse}
use Rattle.strand_base.specs.Counting.{list_below}
use Rattle.strand_order.specs.Lasts.{since_below, cut, is_either}
use Rattle.strand_order.specs.declared.lasts.Sources.{Sources}

-- each link leads to an earlier event
abbrev pub AreBack : List ℕ → Type 0
AreBack links = (i : ℕ) → slice_index links i ≤ i

-- the chain begins at the last member below n, and each member's link leads to the one before it
pub record AreSources (links : List ℕ) (s : Sources) (n : ℕ) (chain : ℕ → Bool) : Type 0 where
  pub last : since_below n chain ≡ cut s.floor s.last
  pub back : (i : ℕ) → i < n → chain i ≡ true → cut s.floor (slice_index links i) ≡ since_below i chain
  pub single : s.single ≤ n

-- the list has the chain's members and the one event more, the last first
abbrev pub IsWalked : List ℕ → Sources → List ℕ → Type 0
IsWalked links s list = (n : ℕ) (chain : ℕ → Bool) → AreSources links s n chain → list_below n (is_either chain s.single) ≡ reverse list
