-- Serves clause again of list: the lines of names in the two passes.
use Rattle.std.proofs.Common.{◌≡◌, ◌≢◌, ℕ, ◌+◌, ◌==◌, arith, true, false, List, [], ◌∷◌, ◌++◌, length, map, get_or, None, refl, sym, ap, subst, ◌∙◌, append_assoc}
use Rattle.std.specs.List.{All, AllByRecursion, AllPairs}
use Rattle.std.specs.Str.{bytes_eq}
use Rattle.std.proofs.lemmas.Bool.Decides.{nat_tests}
use Rattle.std.proofs.lemmas.List.{append-nil, length-append, map-append}
use Rattle.std.proofs.lemmas.List.Elements.{All-filter, filter_passes, recursion_from_All}
use Rattle.std.proofs.lemmas.List.Kept.{AllPairs-filter}
use Rattle.std.proofs.Math.ListN.{get_or-append}
use Rattle.std.proofs.Math.Seq.{get_or-append_seam}
use Rattle.strand_base.specs.Name.{is_label}
use Rattle.strand_image.specs.Symbols.{region_number}
use Rattle.strand_image.specs.declared.symbol.Region.{Region}
use Rattle.strand_image.specs.declared.symbol.Region.TheVariants as regions
use Rattle.strand_image.specs.declared.symbol.Symbol.{Symbol}
use Rattle.strand_asm_lines.specs.declared.line.Section.{Section}
use Rattle.strand_asm.specs.declared.layout.Layout.{Layout}
use Rattle.strand_asm.specs.Layout.{count_in, label_place, laid}
use Rattle.strand_asm.specs.Encode.{Table}
use Rattle.strand_asm.specs.DraftSeen.{DraftSeen}
use Rattle.strand_asm.specs.Draft.{drafted}
use Rattle.strand_asm.specs.Assemble.{label_symbol, region_of}
use Rattle.strand_asm.specs.Listing.{Ascend, name_text, names_at, is_before, stands_at}
use Rattle.strand_asm.proofs.LabelLookup.{flipped}
use Rattle.strand_asm.proofs.ListAgain.Lines.{and_both, label_line_reads}
use Rattle.strand_asm.proofs.ListAgain.OneLine.{drafted_label, laid_label, place_on}
use Rattle.strand_asm.proofs.ListAgain.ManyLines.{Goes, Takes, goes_cons, goes_none}
use Rattle.strand_asm.proofs.ListAgain.NamedSoFar.{named_at, named_before, named_more}

-- the layout of sizes and labels
abbrev pub st : Section → ℕ → ℕ → ℕ → ℕ → Table → Layout
st s cores code volatile persistent labels = record { section = s; cores = cores; code = code; volatile = volatile; persistent = persistent; labels = labels }

-- what is known of a layout behind printed lines: its sizes, and the symbols that its labels are
pub record IsLaid (s : Section) (cores code volatile persistent : ℕ) (named : List Symbol) (l : Layout) : Type 0 where
  pub is : l ≡ st s cores code volatile persistent l.labels
  pub symbols : map label_symbol l.labels ≡ named

abbrev pub Differ : List Symbol → Type 0
Differ ss = AllPairs (λ a b. bytes_eq a.name b.name ≡ false) ss

-- symbols that may stand in a listing
pub record AreNamed (ss : List Symbol) : Type 0 where
  pub labels : All (λ s. is_label s.name ≡ true) ss
  pub ascend : Ascend ss
  pub differ : Differ ss

-- a name that no label has
absent : (labels : Table) (name : List ℕ) → AllByRecursion (λ (s : Symbol). bytes_eq name s.name ≡ false) (map label_symbol labels) → label_place labels name ≡ None
unfolding label_place
absent [] name all = refl
absent (e ∷ es) name all = rw all.0 (absent es name all.1)

-- the name behind others is none of theirs
none_so_far : (done here : List Symbol) (t : Symbol) → Differ (done ++ t ∷ here) → AllByRecursion (λ (s : Symbol). bytes_eq t.name s.name ≡ false) done
none_so_far done here t differ =
    recursion_from_All (λ (s : Symbol). bytes_eq t.name s.name ≡ false) done (λ k d lt.
    let long = length-append done (t ∷ here) in
    let pair = differ k (length done) d lt (omega (arith, long)) in
    let pair : bytes_eq (get_or done k d).name t.name ≡ false = rw (get_or-append done (t ∷ here) d k lt, get_or-append_seam done t here d) at pair in
    flipped (get_or done k d).name t.name _ pair refl)

-- a symbol at the place where a section goes on
abbrev IsHere : Section → ℕ → Symbol → Type 0
IsHere s at t = (is_label t.name ≡ true) × (t.region ≡ region_of s) × (t.place ≡ at)

label_is : (s : Section) (at n : ℕ) (t : Symbol) (l : Layout) → IsHere s at t → l.section ≡ s → count_in l.section l ≡ at → label_symbol (t.name, place_on n l) ≡ t
label_is s at n t l here e f =
    ap (λ (r : Region). let x : Symbol = record { region = r; place = count_in l.section l; name = t.name } in x) (ap region_of e ∙ sym here.1)
    ∙ ap (λ (k : ℕ). let x : Symbol = record { region = t.region; place = k; name = t.name } in x) (f ∙ sym here.2)

name_takes : (s : Section) (cores code volatile persistent at : ℕ) (done here : List Symbol) (t : Symbol) → IsHere s at t → ((labels : Table) → count_in s (st s cores code volatile persistent labels) ≡ at) → Differ (done ++ t ∷ here)
    → Takes laid (IsLaid s cores code volatile persistent done) (IsLaid s cores code volatile persistent (done ++ t ∷ [])) (name_text t)
name_takes s cores code volatile persistent at done here t is counts differ n l h =
    let place = place_on n l in
    let labels = l.labels ++ (t.name, place) ∷ [] in
    let section : l.section ≡ s = ap (λ (m : Layout). m.section) h.is in
    let count : count_in l.section l ≡ at = ap (λ (m : Layout). count_in m.section m) h.is ∙ counts l.labels in
    let none = absent l.labels t.name (subst (λ (ss : List Symbol). AllByRecursion (λ (u : Symbol). bytes_eq t.name u.name ≡ false) ss) (sym h.symbols) (none_so_far done here t differ)) in (
      record l { labels = labels },
      (
        record {
          is = ap (λ (m : Layout). record m { labels = labels }) h.is;
          symbols = map-append label_symbol l.labels ((t.name, place) ∷ []) ∙ ap (λ (ss : List Symbol). ss ++ label_symbol (t.name, place) ∷ []) h.symbols ∙ ap (λ (u : Symbol). done ++ u ∷ []) (label_is s at n t l is section count);
        },
        laid_label n l (name_text t) t.name (label_line_reads t.name is.0) none,
      ),
    )

names_laid : (s : Section) (cores code volatile persistent at : ℕ) (done here : List Symbol) → AllByRecursion (IsHere s at) here → ((labels : Table) → count_in s (st s cores code volatile persistent labels) ≡ at) → Differ (done ++ here)
    → Goes laid (IsLaid s cores code volatile persistent done) (IsLaid s cores code volatile persistent (done ++ here)) (map name_text here)
names_laid s cores code volatile persistent at done [] all counts differ = goes_none laid _ _ (λ l h. record { is = h.is; symbols = h.symbols ∙ sym (append-nil done) })
names_laid s cores code volatile persistent at done (t ∷ here) all counts differ =
    let joined = append_assoc done (t ∷ []) here in
    let rest = names_laid s cores code volatile persistent at (done ++ t ∷ []) here all.1 counts (subst Differ (sym joined) differ) in
    goes_cons laid (IsLaid s cores code volatile persistent done) (IsLaid s cores code volatile persistent (done ++ t ∷ [])) (IsLaid s cores code volatile persistent (done ++ t ∷ here)) (name_text t) (map name_text here)
    (name_takes s cores code volatile persistent at done here t all.0 counts differ)
    (subst (λ (ss : List Symbol). Goes laid (IsLaid s cores code volatile persistent (done ++ t ∷ [])) (IsLaid s cores code volatile persistent ss) (map name_text here)) joined rest)

-- what stands at a place is there
same_region : (a b : Region) → (region_number a == region_number b) ≡ true → a ≡ b
same_region regions.Code regions.Code e = refl
same_region regions.Volatile regions.Volatile e = refl
same_region regions.Persistent regions.Persistent e = refl
same_region regions.Code regions.Volatile e = absurd cc
same_region regions.Code regions.Persistent e = absurd cc
same_region regions.Volatile regions.Code e = absurd cc
same_region regions.Volatile regions.Persistent e = absurd cc
same_region regions.Persistent regions.Code e = absurd cc
same_region regions.Persistent regions.Volatile e = absurd cc

is_here : (s : Section) (at : ℕ) (t : Symbol) → is_label t.name ≡ true → stands_at (region_of s) at t ≡ true → IsHere s at t
is_here s at t named e =
    let both = and_both (region_number t.region == region_number (region_of s)) (t.place == at) e in
    (named, same_region t.region (region_of s) both.0, grind (arith, nat_tests, both.1))

all_here : (s : Section) (at : ℕ) (ss : List Symbol) → AreNamed ss → AllByRecursion (IsHere s at) (named_at ss (region_of s) at)
all_here s at ss are =
    recursion_from_All (IsHere s at) (named_at ss (region_of s) at) (λ k d lt.
    is_here s at (get_or (named_at ss (region_of s) at) k d) (All-filter (stands_at (region_of s) at) (λ t. is_label t.name ≡ true) ss are.labels k d lt) (filter_passes (stands_at (region_of s) at) ss k d lt))

-- the names of a place, where the section goes on there or no name stands there
pub place_laid : (s : Section) (cores code volatile persistent at : ℕ) (ss : List Symbol) → AreNamed ss → (names_at ss (region_of s) at ≢ [] → (labels : Table) → count_in s (st s cores code volatile persistent labels) ≡ at)
    → Goes laid (IsLaid s cores code volatile persistent (named_before ss (region_of s) at)) (IsLaid s cores code volatile persistent (named_before ss (region_of s) (at + 1))) (names_at ss (region_of s) at)
place_laid s cores code volatile persistent at ss are counts = by_names (named_at ss (region_of s) at) refl (all_here s at ss are) counts
  where
    region : Region
    region = region_of s

    done : List Symbol
    done = named_before ss region at

    more : done ++ named_at ss region at ≡ named_before ss region (at + 1)
    more = named_more ss region at are.ascend

    differ : Differ (done ++ named_at ss region at)
    differ = subst Differ (sym more) (AllPairs-filter (λ a b. bytes_eq a.name b.name ≡ false) (is_before region (at + 1)) ss are.differ)

    by_names : (here : List Symbol) → named_at ss region at ≡ here → AllByRecursion (IsHere s at) here → (map name_text here ≢ [] → (labels : Table) → count_in s (st s cores code volatile persistent labels) ≡ at)
        → Goes laid (IsLaid s cores code volatile persistent done) (IsLaid s cores code volatile persistent (named_before ss region (at + 1))) (map name_text here)
    by_names [] same all goes_on =
        let all_done : done ≡ named_before ss region (at + 1) = sym (append-nil done) ∙ ap (λ (l : List Symbol). done ++ l) (sym same) ∙ more in
        goes_none laid _ _ (λ l h. record { is = h.is; symbols = h.symbols ∙ all_done })
    by_names (t ∷ ts) same all goes_on =
        let joined : done ++ t ∷ ts ≡ named_before ss region (at + 1) = ap (λ (l : List Symbol). done ++ l) (sym same) ∙ more in
        subst (λ (l : List Symbol). Goes laid (IsLaid s cores code volatile persistent done) (IsLaid s cores code volatile persistent l) (map name_text (t ∷ ts))) joined
        (names_laid s cores code volatile persistent at done (t ∷ ts) all (goes_on (λ none. absurd cc)) (subst (λ (l : List Symbol). Differ (done ++ l)) same differ))

-- A draft stays as it is.
pub names_drafted : (whole : Layout) (d : DraftSeen) (here : List Symbol) → AllByRecursion (λ (t : Symbol). is_label t.name ≡ true) here → Goes (drafted whole) (λ e. e ≡ d) (λ e. e ≡ d) (map name_text here)
names_drafted whole d [] all = goes_none (drafted whole) _ _ (λ e h. h)
names_drafted whole d (t ∷ here) all =
    goes_cons (drafted whole) (λ e. e ≡ d) (λ e. e ≡ d) (λ e. e ≡ d) (name_text t) (map name_text here)
    (λ n e h. (d, (refl, rw h (drafted_label whole n d (name_text t) t.name (label_line_reads t.name all.0))))) (names_drafted whole d here all.1)

pub place_drafted : (whole : Layout) (d : DraftSeen) (ss : List Symbol) (region : Region) (at : ℕ) → AreNamed ss → Goes (drafted whole) (λ e. e ≡ d) (λ e. e ≡ d) (names_at ss region at)
place_drafted whole d ss region at are =
    names_drafted whole d (named_at ss region at) (recursion_from_All (λ (t : Symbol). is_label t.name ≡ true) (named_at ss region at) (All-filter (stands_at region at) (λ t. is_label t.name ≡ true) ss are.labels))
