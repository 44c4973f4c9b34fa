-- Which rule shapes are taken by, before and after the rows are changed.
use Rattle.std.proofs.Common.{◌≡◌, ℕ, List, [], ◌∷◌, map, Bool, true, false, Option, Some, None, refl, sym, ap, ◌∙◌, inl, inr, ◌⊎◌}
use Rattle.std.specs.List.{list_all, filter_map, cons_option}
use Rattle.std.proofs.lemmas.Bool.{and_parts}
use Rattle.sml_static.specs.Shapes.{Pattern, Shape}
use Rattle.sml_static.specs.Exhaustive.{Head, kept_row}
use Rattle.match_use.specs.Lines.{Line, plain, row_hits, row_misses, TakenBy}
use Rattle.match_use.specs.Steps.{line_with, kept_lines}

-- a line with its columns changed
abbrev pub moved : (List Pattern → List Pattern) → Line → Line
moved g l = record { rule = l.rule; columns = g l.columns }

pub plain-moved : (g : List Pattern → List Pattern) (lines : List Line) → plain (map (moved g) lines) ≡ map g (plain lines)
plain-moved g [] = refl
plain-moved g (l ∷ ls) = ap (λ t. g l.columns ∷ t) (plain-moved g ls)

-- each row is hit and missed after the change as before it
pub record KeepsRows (g : List Pattern → List Pattern) (c : List Pattern → Bool) (ss tt : List Shape) : Type 0 where
  pub hit : (r : List Pattern) → c r ≡ true → row_hits (g r) tt ≡ row_hits r ss
  pub missed : (r : List Pattern) → c r ≡ true → row_misses (g r) tt ≡ row_misses r ss

pub taken-moved : (g : List Pattern → List Pattern) (c : List Pattern → Bool) (ss tt : List Shape) → KeepsRows g c ss tt → (lines : List Line) → list_all c (plain lines) ≡ true
    → (o : Option ℕ) → TakenBy lines o ss → TakenBy (map (moved g) lines) o tt
taken-moved g c ss tt k [] e o t = t
taken-moved g c ss tt k (l ∷ ls) e o (inl h) = let a = and_parts (c l.columns) (list_all c (plain ls)) e in inl (k.hit l.columns a.0 ∙ h.0, h.1)
taken-moved g c ss tt k (l ∷ ls) e o (inr h) = let a = and_parts (c l.columns) (list_all c (plain ls)) e in inr (k.missed l.columns a.0 ∙ h.0, taken-moved g c ss tt k ls a.1 o h.1)

pub taken-moved_back : (g : List Pattern → List Pattern) (c : List Pattern → Bool) (ss tt : List Shape) → KeepsRows g c ss tt → (lines : List Line) → list_all c (plain lines) ≡ true
    → (o : Option ℕ) → TakenBy (map (moved g) lines) o tt → TakenBy lines o ss
taken-moved_back g c ss tt k [] e o t = t
taken-moved_back g c ss tt k (l ∷ ls) e o (inl h) = let a = and_parts (c l.columns) (list_all c (plain ls)) e in inl (sym (k.hit l.columns a.0) ∙ h.0, h.1)
taken-moved_back g c ss tt k (l ∷ ls) e o (inr h) = let a = and_parts (c l.columns) (list_all c (plain ls)) e in inr (sym (k.missed l.columns a.0) ∙ h.0, taken-moved_back g c ss tt k ls a.1 o h.1)

kept_one : (n : ℕ) (o : Option (List Pattern)) (ls : List Line) (rs : List (List Pattern)) → plain ls ≡ rs → plain (cons_option (line_with n o) ls) ≡ cons_option o rs
kept_one n None ls rs e = e
kept_one n (Some r) ls rs e = ap (λ t. r ∷ t) e

-- the columns that a head keeps of each line
pub plain-kept : (h : Head) (lines : List Line) → plain (kept_lines lines h) ≡ filter_map (kept_row h) (plain lines)
plain-kept h [] = refl
plain-kept h (l ∷ ls) = kept_one l.rule (kept_row h l.columns) (kept_lines ls h) (filter_map (kept_row h) (plain ls)) (plain-kept h ls)

-- what is kept of a row is hit where the row is, and missed where it is; a row that is not kept is not hit
pub record KeepsTo (h : Head) (c : List Pattern → Bool) (ss tt : List Shape) : Type 0 where
  pub left : (r : List Pattern) → c r ≡ true → kept_row h r ≡ None → row_hits r ss ≡ false
  pub hit : (r r' : List Pattern) → c r ≡ true → kept_row h r ≡ Some r' → row_hits r ss ≡ true → row_hits r' tt ≡ true
  pub missed : (r r' : List Pattern) → c r ≡ true → kept_row h r ≡ Some r' → row_misses r ss ≡ true → row_misses r' tt ≡ true

-- and the other way round; a row that is not kept is missed
pub record KeepsFrom (h : Head) (c : List Pattern → Bool) (ss tt : List Shape) : Type 0 where
  pub left : (r : List Pattern) → c r ≡ true → kept_row h r ≡ None → row_misses r ss ≡ true
  pub hit : (r r' : List Pattern) → c r ≡ true → kept_row h r ≡ Some r' → row_hits r' tt ≡ true → row_hits r ss ≡ true
  pub missed : (r r' : List Pattern) → c r ≡ true → kept_row h r ≡ Some r' → row_misses r' tt ≡ true → row_misses r ss ≡ true

-- one line more, kept or not
to_more : (n : ℕ) (r : List Pattern) (k : Option (List Pattern)) (rest : List Line) (o : Option ℕ) (ss tt : List Shape)
    → (k ≡ None → row_hits r ss ≡ false) → ((r' : List Pattern) → k ≡ Some r' → row_hits r ss ≡ true → row_hits r' tt ≡ true)
    → ((r' : List Pattern) → k ≡ Some r' → row_misses r ss ≡ true → row_misses r' tt ≡ true)
    → (row_hits r ss ≡ true) × (o ≡ Some n) ⊎ (row_misses r ss ≡ true) × TakenBy rest o tt
    → TakenBy (cons_option (line_with n k) rest) o tt
to_more n r None rest o ss tt left hit missed (inl t) = let f = left refl in cc
to_more n r None rest o ss tt left hit missed (inr t) = t.1
to_more n r (Some r') rest o ss tt left hit missed (inl t) = inl (hit r' refl t.0, t.1)
to_more n r (Some r') rest o ss tt left hit missed (inr t) = inr (missed r' refl t.0, t.1)

from_more : (n : ℕ) (r : List Pattern) (k : Option (List Pattern)) (rest : List Line) (o : Option ℕ) (ss tt : List Shape)
    → (k ≡ None → row_misses r ss ≡ true) → ((r' : List Pattern) → k ≡ Some r' → row_hits r' tt ≡ true → row_hits r ss ≡ true)
    → ((r' : List Pattern) → k ≡ Some r' → row_misses r' tt ≡ true → row_misses r ss ≡ true)
    → TakenBy (cons_option (line_with n k) rest) o tt
    → (row_hits r ss ≡ true) × (o ≡ Some n) ⊎ (row_misses r ss ≡ true) × TakenBy rest o tt
from_more n r None rest o ss tt left hit missed t = inr (left refl, t)
from_more n r (Some r') rest o ss tt left hit missed (inl t) = inl (hit r' refl t.0, t.1)
from_more n r (Some r') rest o ss tt left hit missed (inr t) = inr (missed r' refl t.0, t.1)

pub taken-kept : (h : Head) (c : List Pattern → Bool) (ss tt : List Shape) → KeepsTo h c ss tt → (lines : List Line) → list_all c (plain lines) ≡ true
    → (o : Option ℕ) → TakenBy lines o ss → TakenBy (kept_lines lines h) o tt
taken-kept h c ss tt k [] e o t = t
taken-kept h c ss tt k (l ∷ ls) e o t =
    let a = and_parts (c l.columns) (list_all c (plain ls)) e in
    to_more l.rule l.columns (kept_row h l.columns) (kept_lines ls h) o ss tt (k.left l.columns a.0) (λ r'. k.hit l.columns r' a.0) (λ r'. k.missed l.columns r' a.0)
    (elim t [ inl x ↦ inl x | inr x ↦ inr (x.0, taken-kept h c ss tt k ls a.1 o x.1) ])

pub taken-kept_back : (h : Head) (c : List Pattern → Bool) (ss tt : List Shape) → KeepsFrom h c ss tt → (lines : List Line) → list_all c (plain lines) ≡ true
    → (o : Option ℕ) → TakenBy (kept_lines lines h) o tt → TakenBy lines o ss
taken-kept_back h c ss tt k [] e o t = t
taken-kept_back h c ss tt k (l ∷ ls) e o t =
    let a = and_parts (c l.columns) (list_all c (plain ls)) e in
    let u = from_more l.rule l.columns (kept_row h l.columns) (kept_lines ls h) o ss tt (k.left l.columns a.0) (λ r'. k.hit l.columns r' a.0) (λ r'. k.missed l.columns r' a.0) t in
    elim u [ inl x ↦ inl x | inr x ↦ inr (x.0, taken-kept_back h c ss tt k ls a.1 o x.1) ]
