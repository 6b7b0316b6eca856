-- What is kept of the events below n.
use Rattle.std.specs.Prelude.{◌≡◌, ℕ, suc, ◌<◌, ◌-◌, ◌^◌, ◌&&◌, ◌==◌, List, Option, Some, None, if◌then◌else◌}
use Rattle.std.specs.Ordering.{nat_cmp}
use Rattle.std.specs.BTreeMap.{get}
use Rattle.strand_events.specs.declared.event.Event.{Event}
use Rattle.strand_events.specs.Trace.{is_access, is_store, word_of}
use Rattle.strand_order.specs.declared.lasts.CoreLasts.{CoreLasts}
use Rattle.strand_order.specs.declared.lasts.WordLasts.{WordLasts}
use Rattle.strand_order.specs.declared.seen.Seen.{Seen}
use Rattle.strand_order.specs.CoreLasts.{AreCoreLasts}
use Rattle.strand_order.specs.Sources.{word_lasts, AreWordLinks, AreCoreLinks}
use Rattle.strand_order.specs.Walks.{AreBack}

abbrev pub no_word_lasts : WordLasts
no_word_lasts = record { access = 0; store = 0 }

-- the last events of a word, where it has any
abbrev pub lasts_in : Option WordLasts → WordLasts
lasts_in None = no_word_lasts
lasts_in (Some w) = w

-- after event n
abbrev pub word_lasts_after : Event → ℕ → ℕ → WordLasts → WordLasts
word_lasts_after e n word w = if is_access e && (word_of e == word) then (record { access = suc n; store = if is_store e then suc n else w.store }) else w

-- each of these numbers can still rise
abbrev pub AreSmall : CoreLasts → Type 0
AreSmall m = (m.barrier < 2 ^ 32 - 1) × (m.begin < 2 ^ 32 - 1) × (m.join < 2 ^ 32 - 1)

pub record IsSeen (t : List Event) (n : ℕ) (s : Seen) : Type 0 where
  pub cores : AreCoreLasts t n s.cores
  pub words : (word : ℕ) → lasts_in (get nat_cmp s.words word) ≡ word_lasts t word n
  pub word_links : AreWordLinks t n s.word_links.items
  pub core_links : AreCoreLinks t n s.core_links.items
  pub word_back : AreBack s.word_links.items
  pub core_back : AreBack s.core_links.items
