-- Serves Ring::accept, sent and release: they keep what a ring keeps.
use Rattle.std.proofs.Common.{◌≡◌, ℕ, ◌<◌, ◌≤◌, inl, inr, List, [], ◌∷◌, ◌++◌, length, map, drop, sym, ap, subst, ◌∙◌, arith}
use Rattle.std.specs.Prelude.{slice_get}
use Rattle.std.proofs.lemmas.Bool.{cases_eq}
use Rattle.std.proofs.lemmas.List.{length-append, length-drop, length-map}
use Rattle.strand_base.proofs.BelowBound.{get_more, get_last, at_or_below}
use Rattle.strand_buffer.specs.declared.entry.Entry.{Entry}
use Rattle.strand_buffer.specs.declared.entry.Stage.TheVariants.{Buffered, Sent, Released}
use Rattle.strand_buffer.specs.Entries.{trimmed, passes, is_unreleased, is_open, epoch_at, epoch_in}
use Rattle.strand_buffer.specs.Buffers.{with_stage}
use Rattle.strand_buffer.specs.Links.{IsLink}
use Rattle.strand_buffer.specs.Ring.{IsRing, AreUpTo, KeptRing}
use Rattle.strand_buffer.proofs.WordLinks.{linked_alike, linked_more, linked_drop}
use Rattle.strand_buffer.proofs.EntryStages.{ring_sent, ring_released, words_staged}

module _ (entries : List Entry) (links : List ℕ) (room : ℕ) (kept : KeptRing entries links room) where
  pub kept_sent : (number : ℕ) → KeptRing (map (with_stage Sent number) entries) links room
  kept_sent number = record {
    within = let within = kept.within in omega (arith, within, length-map entries (with_stage Sent number));
    small = kept.small;
    linked = linked_alike entries (map (with_stage Sent number) entries) links (length-map entries (with_stage Sent number)) (words_staged Sent number entries) kept.linked;
    ring = ring_sent number entries kept.ring;
  }

  -- as many are dropped as lie before the oldest that isn't durable
  pub kept_released : (number free : ℕ) → drop free (map (with_stage Released number) entries) ≡ trimmed (map (with_stage Released number) entries)
      → free ≤ length (map (with_stage Released number) entries) → KeptRing (drop free (map (with_stage Released number) entries)) (drop free links) room
  kept_released number free rest le =
      let staged = map (with_stage Released number) entries in
      record {
        within = let within = kept.within in omega (arith, within, length-drop free staged, length-map entries (with_stage Released number));
        small = kept.small;
        linked = linked_drop free staged links le (linked_alike entries staged links (length-map entries (with_stage Released number)) (words_staged Released number entries) kept.linked);
        ring = subst IsRing (sym rest) (ring_released number entries kept.ring);
      }

  module _ (e : Entry) (waits : e.stage ≡ Buffered) (last : AreUpTo entries e.epoch) where
    epoch_old : (i : ℕ) → i < length entries → epoch_at (entries ++ e ∷ []) i ≡ epoch_at entries i
    epoch_old i lt = ap epoch_in (get_more entries e i lt)

    epoch_new : epoch_at (entries ++ e ∷ []) (length entries) ≡ e.epoch
    epoch_new = ap epoch_in (get_last entries e)

    ring_more : IsRing (entries ++ e ∷ [])
    ring_more = record {
      first = λ some. elim (cases_eq (length entries) 0) [
        | inl none ↦ ap (λ n. passes is_open (slice_get (entries ++ e ∷ []) n)) (sym none) ∙ ap (passes is_open) (get_last entries e) ∙ ap is_unreleased waits
        | inr ne ↦ (let there : 0 < length entries = grind arith in ap (passes is_open) (get_more entries e 0 there) ∙ kept.ring.first there)
      ];
      ascending = λ h i le lt. elim (cases_eq i (length entries)) [
        | inl end ↦ (
            let now : epoch_at (entries ++ e ∷ []) i ≡ e.epoch = ap (epoch_at (entries ++ e ∷ [])) end ∙ epoch_new in
            elim (cases_eq h i) [
              | inl same ↦ omega (arith, ap (epoch_at (entries ++ e ∷ [])) same)
              | inr ne ↦ (let below : h < length entries = grind arith in omega (arith, now, epoch_old h below, last h below))
            ]
            )
        | inr ne ↦ (
            let below : i < length entries = at_or_below (omega (arith, lt, length-append entries (e ∷ []))) ne in
            let up = kept.ring.ascending h i le below in
            omega (arith, up, epoch_old h (omega (arith, le, below)), epoch_old i below)
            )
      ];
    }

    pub kept_accepted : (distance : ℕ) → length entries < room → IsLink entries (length entries) e.word distance → KeptRing (entries ++ e ∷ []) (links ++ distance ∷ []) room
    kept_accepted distance lt link = record {
      within = omega (arith, lt, length-append entries (e ∷ []));
      small = kept.small;
      linked = linked_more entries links e distance kept.linked link;
      ring = ring_more;
    }
