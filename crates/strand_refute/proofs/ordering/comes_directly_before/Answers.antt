use Rattle.std.proofs.Common.{◌≡◌, ℕ, ◌<◌, true, ◌&&◌, ◌||◌, ◌==◌, List, Some, length, sym, ap, ◌∙◌, arith}
use Rattle.std.specs.Prelude.{slice_get, slice_index_or}
use Rattle.std.proofs.lemmas.Option.{slice_get-get_or}
use Rattle.strand_events.specs.declared.event.Event.{Event}
use Rattle.strand_events.specs.declared.event.Event.TheVariants.{Load}
use Rattle.strand_events.specs.Trace.{core_of, is_access, is_store, word_of}
use Rattle.strand_refute.proofs.Checks.Direct.{direct_is}
use Rattle.strand_refute.proofs.ordering.comes_directly_before.Goals as goal

-- the event that was read
read : (t events : List Event) (n : ℕ) → events ≡ t → n < length t → slice_get t n ≡ Some (slice_index_or events n (Load 0 0))
read t events n same lt = slice_get-get_or t n (Load 0 0) lt ∙ ap (λ xs. Some (slice_index_or xs n (Load 0 0))) (sym same)

pub returns : goal.returns
returns c =
    let t = c.args.trace.now.events in
    let e : Event = slice_index_or c.events.result.now c.args.a (Load 0 0) in
    let f : Event = slice_index_or c.events-2.result.now c.args.b (Load 0 0) in
    let x : is_access e ≡ true = sym c.if-not-is_access.ensures in
    let y : is_access f ≡ true = sym c.if-not-is_access-2.ensures in
    let core : (c.core.result == c.core-2.result) ≡ (core_of e == core_of f) = ap (λ n. n == c.core-2.result) c.core.ensures ∙ ap (λ n. core_of e == n) c.core-2.ensures in
    c.is_direct.ensures
    ∙ ap (λ k. k || ((c.core.result == c.core-2.result) && c.ordered_by_core-own.result)) c.conflict.ensures
    ∙ ap (λ k. (is_access e && is_access f && (word_of e == word_of f) && (is_store e || is_store f)) || (k && c.ordered_by_core-own.result)) core
    ∙ ap (λ k. (is_access e && is_access f && (word_of e == word_of f) && (is_store e || is_store f)) || ((core_of e == core_of f) && k)) c.ordered_by_core-own.ensures
    ∙ sym (direct_is t c.args.a c.args.b c.args.mode e f (read t c.events.result.now c.args.a c.events.ensures.events c.requires.a) (read t c.events-2.result.now c.args.b c.events-2.ensures.events c.requires.b) (omega (arith, c.if-a-b.false)) x y)
