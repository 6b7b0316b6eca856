-- Serves put_line, and each call above that prints: what was appended where memory ran out.
-- A front of a text, then a front of what follows it.
use Rattle.std.proofs.Common.{◌≡◌, ℕ, zero, suc, ◌+◌, ◌<◌, ◌≤◌, arith, length, take, drop, get_or, map, List, [], ◌∷◌, ◌++◌, Result, Ok, Err, refl, sym, ap, ◌∙◌, append_assoc}
use Rattle.std.proofs.lemmas.List.{append-nil, take_more, take_all}
use denote.Ref.{Bor}
use Rattle.strand_base.specs.Text.{line_text}
use Rattle.strand_base.specs.Puts.{AppendsFront, Puts}
use Rattle.std.specs.List.{flat_map}

pub front_none : (text old : List ℕ) → AppendsFront text old old
front_none text old = record { front = []; rest = text; parts = refl; appended = sym (append-nil old) }

pub front_before : (a b old new : List ℕ) → AppendsFront a old new → AppendsFront (a ++ b) old new
front_before a b old new h = record { front = h.front; rest = h.rest ++ b; parts = ap (λ (s : List ℕ). s ++ b) h.parts ∙ append_assoc h.front h.rest b; appended = h.appended }

pub front_after : (a b old mid new : List ℕ) → mid ≡ old ++ a → AppendsFront b mid new → AppendsFront (a ++ b) old new
front_after a b old mid new e h =
    record {
      front = a ++ h.front;
      rest = h.rest;
      parts = ap (λ (s : List ℕ). a ++ s) h.parts ∙ sym (append_assoc a h.front h.rest);
      appended = h.appended ∙ ap (λ (s : List ℕ). s ++ h.front) e ∙ append_assoc old a h.front;
    }

-- after a text that was appended
pub puts_after : {T E : Type 0} (r : Result T E) (a b old mid new : List ℕ) → mid ≡ old ++ a → Puts r b mid new → Puts r (a ++ b) old new
puts_after (Ok x) a b old mid new e h = h ∙ ap (λ (s : List ℕ). s ++ b) e ∙ append_assoc old a b
puts_after (Err d) a b old mid new e h = front_after a b old mid new e h

-- within a text, after a front that was appended whole
pub front_within : (a b c text old mid new : List ℕ) → text ≡ a ++ (b ++ c) → mid ≡ old ++ a → AppendsFront b mid new → AppendsFront text old new
front_within a b c text old mid new t e h = rw t (front_after a (b ++ c) old mid new e (front_before b c mid new h))

-- the texts of a list, at one of its members
pub flat_split : {X : Type 0} (f : X → List ℕ) (xs : List X) (i : ℕ) (d : X) → i < length xs → flat_map f xs ≡ flat_map f (take i xs) ++ (f (get_or xs i d) ++ flat_map f (drop (suc i) xs))
flat_split f [] i d lt = absurd (omega arith)
flat_split f (x ∷ xs) zero d lt = refl
flat_split f (x ∷ xs) (suc i) d lt = ap (λ (s : List ℕ). f x ++ s) (flat_split f xs i d (omega arith)) ∙ sym (append_assoc (f x) (flat_map f (take i xs)) (f (get_or xs i d) ++ flat_map f (drop (suc i) xs)))

flat_append : {X : Type 0} (f : X → List ℕ) (xs : List X) (x : X) → flat_map f (xs ++ x ∷ []) ≡ flat_map f xs ++ f x
flat_append f [] x = append-nil (f x)
flat_append f (y ∷ xs) x = ap (λ (s : List ℕ). f y ++ s) (flat_append f xs x) ∙ sym (append_assoc (f y) (flat_map f xs) (f x))

pub flat_more : {X : Type 0} (f : X → List ℕ) (xs : List X) (i : ℕ) (d : X) → i < length xs → flat_map f (take (i + 1) xs) ≡ flat_map f (take i xs) ++ f (get_or xs i d)
flat_more f xs i d lt = rw (take_more xs i d lt) (flat_append f (take i xs) (get_or xs i d))

pub flat_all : {X : Type 0} (f : X → List ℕ) (xs : List X) (n : ℕ) → length xs ≤ n → flat_map f (take n xs) ≡ flat_map f xs
flat_all f xs n le = ap (λ (ys : List _). flat_map f ys) (take_all n xs le)

pub flat_of_map : {X Y : Type 0} (f : Y → List ℕ) (g : X → Y) (xs : List X) → flat_map f (map g xs) ≡ flat_map (λ x. f (g x)) xs
flat_of_map f g [] = refl
flat_of_map f g (x ∷ xs) = ap (λ (s : List ℕ). f (g x) ++ s) (flat_of_map f g xs)

-- one more text in a loop, its last turn, and a turn that stopped
pub loop_more : {X : Type 0} (f : X → List ℕ) (xs : List X) (i : ℕ) (d : X) (old mid new : List ℕ) → i < length xs → mid ≡ old ++ flat_map f (take i xs) → new ≡ mid ++ f (get_or xs i d) → new ≡ old ++ flat_map f (take (i + 1) xs)
loop_more f xs i d old mid new lt e h = h ∙ ap (λ (s : List ℕ). s ++ f (get_or xs i d)) e ∙ append_assoc old (flat_map f (take i xs)) (f (get_or xs i d)) ∙ ap (λ (s : List ℕ). old ++ s) (sym (flat_more f xs i d lt))

pub loop_all : {X : Type 0} (f : X → List ℕ) (xs : List X) (n : ℕ) (old new : List ℕ) → length xs ≤ n → new ≡ old ++ flat_map f (take n xs) → new ≡ old ++ flat_map f xs
loop_all f xs n old new le e = e ∙ ap (λ (s : List ℕ). old ++ s) (flat_all f xs n le)

pub loop_stops : {X : Type 0} (f : X → List ℕ) (xs : List X) (i : ℕ) (d : X) (old mid new : List ℕ) → i < length xs → mid ≡ old ++ flat_map f (take i xs) → AppendsFront (f (get_or xs i d)) mid new → AppendsFront (flat_map f xs) old new
loop_stops f xs i d old mid new lt e h = front_within (flat_map f (take i xs)) (f (get_or xs i d)) (flat_map f (drop (suc i) xs)) (flat_map f xs) old mid new (flat_split f xs i d lt) e h

-- a line in its three parts
pub line_parts : (first : List ℕ) (others : List (Bor (List ℕ))) → line_text (first ∷ map (λ w. w.now) others) ≡ first ++ (flat_map (λ w. 32 ∷ w.now) others ++ 10 ∷ [])
line_parts first others = rw (flat_of_map (λ w. 32 ∷ w) (λ w. w.now) others) (append_assoc first (flat_map (λ w. 32 ∷ w.now) others) (10 ∷ []))

-- In a loop: what was appended so far, and what of the text is left.
pub record SoFar (text rest old new : List ℕ) : Type 0 where
  pub done : List ℕ
  pub appended : new ≡ old ++ done
  pub parts : text ≡ done ++ rest

pub so_far_none : (text old : List ℕ) → SoFar text text old old
so_far_none text old = record { done = []; appended = sym (append-nil old); parts = refl }

pub so_far_more : (text rest a rest' old mid new : List ℕ) → SoFar text rest old mid → rest ≡ a ++ rest' → new ≡ mid ++ a → SoFar text rest' old new
so_far_more text rest a rest' old mid new h e more =
    record {
      done = h.done ++ a;
      appended = more ∙ ap (λ (s : List ℕ). s ++ a) h.appended ∙ append_assoc old h.done a;
      parts = h.parts ∙ ap (λ (s : List ℕ). h.done ++ s) e ∙ sym (append_assoc h.done a rest');
    }

pub so_far_stops : (text rest a rest' old mid new : List ℕ) → SoFar text rest old mid → rest ≡ a ++ rest' → AppendsFront a mid new → AppendsFront text old new
so_far_stops text rest a rest' old mid new h e f = front_within h.done a rest' text old mid new (h.parts ∙ ap (λ (s : List ℕ). h.done ++ s) e) h.appended f

pub so_far_all : (text old new : List ℕ) → SoFar text [] old new → new ≡ old ++ text
so_far_all text old new h = h.appended ∙ ap (λ (s : List ℕ). old ++ s) (sym (append-nil h.done) ∙ sym h.parts)
