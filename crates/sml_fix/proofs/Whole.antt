-- What reading says of a whole row.
use Rattle.std.proofs.Common.{◌≡◌, ℕ, ◌+◌, ◌≤◌, Bool, true, false, List, [], ◌∷◌, ◌++◌, Some, Ok, Err, refl, sym, ap, subst, ◌∙◌, append_assoc, arith, inl, inr}
use Rattle.std.proofs.lemmas.List.{append-nil}
use Rattle.tl_text.specs.declared.code.Code.{Code}
use Rattle.tl_text.specs.declared.code.Code.TheVariants as tl_code
use Rattle.tl_text.specs.declared.fault.Fault.{Fault}
use Rattle.readers.specs.declared.code.Code.{Code as ReadCode}
use Rattle.readers.specs.declared.code.Code.TheVariants as read_code
use Rattle.readers.specs.declared.fault.ReadError.{ReadError}
use Rattle.readers.specs.declared.fault.ReadError.TheVariants as errors
use Rattle.readers.specs.Reader.{first}
use Rattle.readers.specs.Language.{Viable}
use Rattle.readers.specs.Room.{at_height}
use Rattle.readers.specs.WholeText.{RefusedAt}
use Rattle.readers.specs.Given.{Fails}
use Rattle.readers.specs.Infix.{ground}
use Rattle.readers.proofs.Outcome.{ok_is}
use Rattle.readers.proofs.WholeText.{refused_at}
use Rattle.sml_fix.specs.declared.row.Group.{Group}
use Rattle.sml_fix.specs.declared.row.Part.{Part}
use Rattle.sml_fix.specs.declared.row.Cell.{Cell}
use Rattle.sml_fix.specs.declared.row.Grown.{Grown}
use Rattle.sml_fix.specs.Fixities.{Settings}
use Rattle.sml_fix.specs.Grouping.{apply_of, grouped_on}
use Rattle.sml_fix.specs.Reading.{group_read}
use Rattle.sml_fix.specs.Resolution.{cells, Grouping, Groups, Refused, GivesGroup, RefusesAs, fault_at, FaultOf}
use Rattle.sml_fix.proofs.Heights.{group_on, group_mono}
use Rattle.sml_fix.proofs.Exact.{row_ends, ground_ends, ground_reads}
use Rattle.sml_fix.proofs.Refused.{group_at, one_atom, some_on, ground_refuses}

nothing_left : (s : List Cell) → row_ends ground (first s) ≡ true → s ≡ []
nothing_left [] e = refl
nothing_left (c ∷ s) e = let no_end : true ≡ false = sym e ∙ ground_ends c in absurd cc

-- what was read is all of the row, and a group of it
pub read_all : (h : ℕ) (s r : List Cell) (x : Grown) → group_read h false ground s ≡ Ok (x, r) → grouped_on h false x s
read_all h s r x e =
    let f = (ground_reads h false).sound s (x, r) e in
    let none : r ≡ [] = nothing_left r f.stops in
    subst (λ (w : List Cell). grouped_on h false x w) (sym (f.parts ∙ (ap (λ (z : List Cell). f.read ++ z) none ∙ append-nil f.read))) f.derives

-- a row has at most one group
pub one_group : (m n : ℕ) (s : List Cell) (x y : Grown) → grouped_on m false x s → grouped_on n false y s → x ≡ y
one_group m n s x y d e =
    let k : ℕ = m + n in
    let p = group_mono (at_height m false) (at_height k false) x s (omega arith, λ i. i) d in
    let q = group_mono (at_height n false) (at_height k false) y s (omega arith, λ i. i) e in
    let same = ok_is (x, []) (y, []) (sym ((ground_reads k false).complete x s [] p refl) ∙ (ground_reads k false).complete y s [] q refl) in
    ap (λ (z : Grown × List Cell). z.0) same

pub only_this : (h : ℕ) (s r : List Cell) (x : Grown) (g : Group) → group_read h false ground s ≡ Ok (x, r) → Grouping false g s → x.group ≡ g
only_this h s r x g e d = ap (λ (z : Grown). z.group) (one_group h d.2 s x d.0 (read_all h s r x e) d.3) ∙ d.1

refused : (h : ℕ) (s : List Cell) (e : ReadCode × List Cell) → 1 ≤ h → group_read h false ground s ≡ Err e → RefusedAt group_on h s e.0 e.1
refused h s e le i = refused_at group_on (λ t. row_ends ground) (group_at ground) (λ t. refl) (λ k. ground_reads k.height k.clashes) group_mono h
    (record { tree = apply_of (0, []); more = one_atom ∷ []; derives = some_on h false le }) s e (ground_refuses h false s e i)

grown : (b : Bool) (u : List Cell) → (v : Viable (Grouping b) u) → Viable (group_on (at_height v.derives.2 b)) u
grown b u v = record { tree = v.derives.0; more = v.more; derives = v.derives.3 }

shrunk : (h : ℕ) (b : Bool) (u : List Cell) → Viable (group_on (at_height h b)) u → Viable (Grouping b) u
shrunk h b u v = record { tree = v.tree.group; more = v.more; derives = (v.tree, refl, h, v.derives) }

grammar_refused : (f : Settings) (row : List Part) (h : ℕ) (c : Cell) (rest : List Cell) → RefusedAt group_on h (cells f row) read_code.Grammar (c ∷ rest) → Refused f row c.place tl_code.Grammar
grammar_refused f row h c rest g = record {
  read = g.read;
  next = c;
  rest = rest;
  parts = g.parts;
  stands = refl;
  viable = shrunk h false g.read g.viable;
  least = λ v. g.grammar refl (at_height v.derives.2 false) c refl (grown false (g.read ++ c ∷ []) v);
  grammar = λ e v. g.grammar refl (at_height v.derives.2 true) c refl (grown true (g.read ++ c ∷ []) v);
  clash = λ e. absurd cc;
  codes = inl refl;
}

clash_refused : (f : Settings) (row : List Part) (h : ℕ) (c : Cell) (rest : List Cell) → RefusedAt group_on h (cells f row) read_code.FixityClash (c ∷ rest) → Refused f row c.place tl_code.FixityClash
clash_refused f row h c rest g = record {
  read = g.read;
  next = c;
  rest = rest;
  parts = g.parts;
  stands = refl;
  viable = shrunk h false g.read g.viable;
  least = λ v. g.clash refl c refl v.derives.2 (grown false (g.read ++ c ∷ []) v);
  grammar = λ e. absurd cc;
  clash = λ e. let k = g.clashing refl in
      let same : c ≡ k.1 = some_is c k.1 k.2 in
      shrunk k.0 true (g.read ++ c ∷ []) (subst (λ (d : Cell). Viable (group_on (at_height k.0 true)) (g.read ++ d ∷ [])) (sym same) k.3);
  codes = inr refl;
}
  where
    some_is : (a b : Cell) → Some a ≡ Some b → a ≡ b
    some_is a b e = cc

no_group : (f : Settings) (row : List Part) (g : Group) (p : _) (k : Code) → Refused f row p k → Groups f row g → ⊥
no_group f row g p k r d =
    r.least (record { tree = g; more = r.rest; derives = (d.0, d.1, d.2, subst (λ (w : List Cell). grouped_on d.2 false d.0 w) (r.parts ∙ sym (append_assoc r.read (r.next ∷ []) r.rest)) d.3) })

-- the fault that is answered
pub fault_only : (e : ReadError Cell) (a : Fault) (f : Settings) (row : List Part) (h : ℕ) → 1 ≤ h → FaultOf e a → Fails e (group_read h false ground (cells f row)) → (g : Group) → Groups f row g → GivesGroup (Err a) g
fault_only errors.NoMemory a f row h le is i g d = subst (λ (a : Fault). GivesGroup (Err a) g) (sym is) tt
fault_only (errors.Refused code rest) a f row h le is i g d = subst (λ (a : Fault). GivesGroup (Err a) g) (sym is) (go code rest.now i)
  where
    go : (code : ReadCode) (rest : List Cell) → group_read h false ground (cells f row) ≡ Err (code, rest) → GivesGroup (Err (fault_at code rest)) g
    go read_code.Grammar (c ∷ rest) i = no_group f row g c.place tl_code.Grammar (grammar_refused f row h c rest (refused h (cells f row) (read_code.Grammar, c ∷ rest) le i)) d
    go read_code.FixityClash (c ∷ rest) i = no_group f row g c.place tl_code.FixityClash (clash_refused f row h c rest (refused h (cells f row) (read_code.FixityClash, c ∷ rest) le i)) d
    go read_code.Depth (c ∷ rest) i = tt
    go read_code.Grammar [] i = tt
    go read_code.FixityClash [] i = tt
    go read_code.Depth [] i = tt

pub fault_right : (e : ReadError Cell) (a : Fault) (f : Settings) (row : List Part) (h : ℕ) → 1 ≤ h → FaultOf e a → Fails e (group_read h false ground (cells f row)) → RefusesAs (Refused f row) (Err a)
fault_right errors.NoMemory a f row h le is i = subst (λ (a : Fault). RefusesAs (Refused f row) (Err a)) (sym is) tt
fault_right (errors.Refused code rest) a f row h le is i = subst (λ (a : Fault). RefusesAs (Refused f row) (Err a)) (sym is) (go code rest.now i)
  where
    go : (code : ReadCode) (rest : List Cell) → group_read h false ground (cells f row) ≡ Err (code, rest) → RefusesAs (Refused f row) (Err (fault_at code rest))
    go read_code.Grammar (c ∷ rest) i = grammar_refused f row h c rest (refused h (cells f row) (read_code.Grammar, c ∷ rest) le i)
    go read_code.FixityClash (c ∷ rest) i = clash_refused f row h c rest (refused h (cells f row) (read_code.FixityClash, c ∷ rest) le i)
    go read_code.Depth (c ∷ rest) i = tt
    go read_code.Grammar [] i = tt
    go read_code.FixityClash [] i = tt
    go read_code.Depth [] i = tt
