-- Serves clause gives of assemble, by Labels::add, label_place and symbols.
-- A look-up by the bytes of the keys is a look-up in the list that contracts see.
use Rattle.std.proofs.Common.{◌≡◌, ℕ, ◌<◌, arith, Bool, true, false, List, [], ◌∷◌, ◌++◌, Some, Result, Ok, Err, cond, map, length, get_or, refl, sym, ap, ◌∙◌}
use Rattle.std.specs.Map.{lookup}
use Rattle.std.specs.List.{slice_get}
use Rattle.std.specs.Str.{bytes_eq}
use Rattle.std.specs.Result.{OnOk, is_err}
use Rattle.std.proofs.lemmas.Bool.{true≢false}
use Rattle.std.proofs.lemmas.List.{get_or-map, length-map}
use Rattle.std.proofs.lemmas.Option.{get_or_from_slice_get, slice_get_within}
use Rattle.std.proofs.lemmas.Slice.Eq.{bytes_eq-Decides}

module _ {K X : Type 0} (f : K → List ℕ) where
  -- what contracts see of an entry
  abbrev pub seen : K × X → List ℕ × X
  seen e = (f e.0, e.1)

  pub lookup-seen : (test : List ℕ → Bool) (es : List (K × X)) → lookup (λ k. test (f k)) es ≡ lookup test (map seen es)
  lookup-seen test [] = refl
  lookup-seen test (e ∷ es) = ap (λ r. cond (test (f e.0)) (Some e.1) r) (lookup-seen test es)

  pub map-seen-push : (es : List (K × X)) (k : K) (v : X) → map seen (es ++ (k, v) ∷ []) ≡ map seen es ++ (f k, v) ∷ []
  map-seen-push [] k v = refl
  map-seen-push (e ∷ es) k v = ap (λ r. seen e ∷ r) (map-seen-push es k v)

  -- the entry with a number, as contracts see it
  pub entry-seen : (es : List (K × X)) (labels : List (List ℕ × X)) (i : ℕ) (k : K) (v : X) (d : List ℕ × X) → map seen es ≡ labels → Some (k, v) ≡ slice_get es i → (i < length labels) × (get_or labels i d ≡ (f k, v))
  entry-seen es labels i k v d same there =
      let within : i < length es = slice_get_within es i (k, v) (sym there) in
      let long : length labels ≡ length es = ap length (sym same) ∙ length-map es seen in (
        omega arith,
        ap (λ (ls : List (List ℕ × X)). get_or ls i d) (sym same) ∙ get_or-map seen es i (k, v) d within ∙ ap seen (get_or_from_slice_get es i (k, v) (k, v) (sym there)),
      )

pub from_ok : {T E : Type 0} (r : Result T E) (P : Type 0) → is_err r ≡ false → OnOk r P → P
from_ok (Ok x) P e h = h
from_ok (Err x) P e h = absurd cc

-- Bytes that differ from others: the others differ from them.
pub flipped : (x y : List ℕ) (b : Bool) → bytes_eq x y ≡ false → bytes_eq y x ≡ b → b ≡ false
flipped x y false e f = refl
flipped x y true e f = absurd (true≢false (sym ((bytes_eq-Decides x y).1 (sym ((bytes_eq-Decides y x).0 f))) ∙ e))
