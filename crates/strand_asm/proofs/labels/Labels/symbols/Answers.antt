use Rattle.std.proofs.Common.{◌≡◌, ◌∷◌, [], ◌++◌, map, take, get_or, refl, sym, ap, ◌∙◌, arith}
use Rattle.std.proofs.lemmas.Bool.{true≢false}
use Rattle.std.proofs.lemmas.List.{length-map, map-append, take_all, take_more}
use Rattle.std.specs.String.{string_bytes}
use Rattle.strand_asm.specs.Assemble.{label_symbol}
use Rattle.strand_asm.proofs.LabelLookup.{entry-seen, seen}
use Rattle.strand_asm.proofs.LabelSymbols.{differ_mapped, nowhere}
use Rattle.strand_asm.proofs.labels.Labels.symbols.Goals as goal
use Rattle.strand_asm.proofs.labels.Labels.symbols.Goals.{in-Some+in_ok-put_symbol, in_default}

pub put_symbol-requires-clause-name : goal.put_symbol-requires-clause-name
put_symbol-requires-clause-name c =
    let e = entry-seen string_bytes c.self.inside.places.entries c.args.self.now c.loop-k.k c.in-Some.name.now c.in-Some.place.now nowhere c.self.view_is c.in-Some.ensures.entry in
    let named = rw e.1 at (c.requires.names c.loop-k.k nowhere e.0) in
    rw c.as_str.ensures.value named

pub put_symbol-requires-clause-place : goal.put_symbol-requires-clause-place
put_symbol-requires-clause-place c =
    let e = entry-seen string_bytes c.self.inside.places.entries c.args.self.now c.loop-k.k c.in-Some.name.now c.in-Some.place.now nowhere c.self.view_is c.in-Some.ensures.entry in
    rw e.1 at (c.requires.places c.loop-k.k nowhere e.0)

pub loop-k-preserved : goal.loop-k-preserved
loop-k-preserved c =
    let labels = map (seen string_bytes) c.self.inside.places.entries in
    elim c.match-get_index.branch [
      | in-Some+in_ok-put_symbol w ↦
          let e = entry-seen string_bytes c.self.inside.places.entries labels c.loop-k.k w.in-Some.name.now w.in-Some.place.now nowhere refl w.in-Some.ensures.entry in
          let here : label_symbol (w.as_str.result.now, w.in-Some.place.now) ≡ label_symbol (get_or labels c.loop-k.k nowhere) = rw (w.as_str.ensures.value, e.1) refl in
          rw w.symbols-is (w.in_ok-put_symbol.ensures ∙ ap (λ ss. ss ++ label_symbol (w.as_str.result.now, w.in-Some.place.now) ∷ []) c.loop-k.invariant ∙ ap (λ s. map label_symbol (take c.loop-k.k labels) ++ s ∷ []) here
          ∙ sym (map-append label_symbol (take c.loop-k.k labels) (get_or labels c.loop-k.k nowhere ∷ [])) ∙ ap (map label_symbol) (sym (take_more labels c.loop-k.k nowhere e.0)))
      | in_default w ↦ absurd (true≢false (sym (w.in_default.ensures.found.1 (omega (arith, c.len-k-end.ensures.len)))))
    ]

pub put_in_order-requires : goal.put_in_order-requires
put_in_order-requires c =
    let labels = map (seen string_bytes) c.self.inside.places.entries in
    let all : take c.loop-k.k labels ≡ labels = take_all c.loop-k.k labels (let long = length-map c.self.inside.places.entries (seen string_bytes) in let len = c.len-k-end.ensures.len in omega arith) in
    rw (c.deref_mut.ensures.value, c.loop-k.invariant, all, c.self.view_is) (differ_mapped c.args.self.now c.requires.differ)
