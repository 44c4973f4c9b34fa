-- What the items of a program are: names that no basis has, and literals in their ranges.
use Rattle.std.proofs.Common.{◌≡◌, ℕ, zero, suc, ◌<◌, length, get_or, arith, Bool, true, false, not, List, [], ◌∷◌, ◌++◌, Option, Some, None, Result, Ok, Err, refl, sym, subst}
use Rattle.std.specs.Prelude.{codes, option_map, if◌then◌else◌}
use Rattle.std.specs.Str.{bytes_eq}
use Rattle.std.proofs.lemmas.Slice.Eq.{bytes_eq-Decides}
use Rattle.tl_text.specs.declared.place.Place.{Place}
use Rattle.tl_text.specs.declared.lit.Lit.TheVariants as lit
use Rattle.oc_rules.proofs.Tests.{both_ways, and_true}
use Rattle.oc_names.specs.Mangled.{may_name}
use Rattle.oc_names.specs.declared.names.NameKind.TheVariants as kind
use Rattle.sml_ast.specs.declared.bare_pat.BareAtPat.{BareAtPat, out-BareAtPat}
use Rattle.sml_ast.specs.declared.bare_pat.BareAtPat.TheOpen.{BareAtPat-F, BarePat-F}
use Rattle.sml_ast.specs.declared.bare_pat.BarePField.{BarePField}
use Rattle.sml_ast.specs.declared.bare_pat.BarePat.{BarePat, out-BarePat}
use Rattle.sml_ast.specs.declared.bare_exp.BareAtExp.{BareAtExp, out-BareAtExp}
use Rattle.sml_ast.specs.declared.bare_exp.BareAtExp.TheOpen.{BareAtExp-F, BareDec-F, BareExp-F}
use Rattle.sml_ast.specs.declared.bare_exp.BareRule.{BareRule}
use Rattle.sml_ast.specs.declared.bare_exp.BareExp.{BareExp, out-BareExp}
use Rattle.sml_ast.specs.declared.bare_exp.BareDec.{BareDec, out-BareDec}
use Rattle.sml_ast.specs.declared.bare_program.BareStrBind.{BareStrBind}
use Rattle.sml_ast.specs.declared.bare_program.BareStrBind.TheOpen.{BareStrDec-F}
use Rattle.sml_ast.specs.declared.bare_program.BareStrExp.{BareStrExp}
use Rattle.sml_ast.specs.declared.bare_program.BareStrDec.{BareStrDec, out-BareStrDec}
use Rattle.sml_ast.specs.declared.bare_program.BareTop.{BareTop}
use Rattle.sml_ast.specs.declared.bare_program.BareTop.TheVariants as top
use Rattle.sml_ast.specs.declared.bare_program.BareProgram.{BareProgram}
use Rattle.built_items.specs.declared.item.SourceItem.{SourceItem}
use Rattle.built_items.specs.declared.item.Target.{Target}
use Rattle.built_items.specs.declared.item.Target.TheVariants.{Wild, Var}
use Rattle.built_items.specs.declared.item.Value.{Value}
use Rattle.built_items.specs.declared.item.Value.TheVariants.{Literal, Printed}
use Rattle.built_items.specs.Built.{is_basis, is_free, is_literal, are_bytes, target_in, target_of, literal_in, is_print, printed_in, value_of, item_of, all_known, items_of_dec, items_of_strdec, items_of_top, place_of, read_on, read_tops, tops_of, AreItems}
use Rattle.tl_session.specs.LawfulItems.{LawfulTarget, LawfulValue, LawfulItem, LawfulItems}
use Rattle.tl_session.proofs.ItemNames.{LeavesTarget, LeavesPrint}

-- ---- lawful items

-- a free name has a spelling
pub may_be_named : (x : List ℕ) → is_free x ≡ true → may_name kind.Value x ≡ true
may_be_named x free = (and_true (may_name kind.Value x) (not (is_basis x)) free).0

-- and is not print
name_is_other : (x : List ℕ) → is_free x ≡ true → bytes_eq x (codes "print") ≡ false
name_is_other x free = by (bytes_eq x (codes "print")) refl where
  by : (b : Bool) → bytes_eq x (codes "print") ≡ b → b ≡ false
  by true e =
      let P : List ℕ → Type 0 = λ z. is_free z ≡ true in
      both_ways (is_free (codes "print")) (subst P ((bytes_eq-Decides x (codes "print")).0 e) free) refl
  by false e = refl

target_leaves : (t : Target) → LawfulTarget t → LeavesTarget t
target_leaves Wild h = tt
target_leaves (Var x) h = (name_is_other x h, may_be_named x h)

-- lawful items leave print as it is
pub front_leaves : (items : List SourceItem) → LawfulItems items → LeavesPrint items
front_leaves [] h = tt
front_leaves (i ∷ items) h = (target_leaves i.target h.0.0, front_leaves items h.1)

lawful_append : (is js : List SourceItem) → LawfulItems is → LawfulItems js → LawfulItems (is ++ js)
lawful_append [] js h k = k
lawful_append (i ∷ is) js h k = (h.0, lawful_append is js h.1 k)

-- each of them is lawful
pub lawful_at : (items : List SourceItem) (i : ℕ) (d : SourceItem) → i < length items → LawfulItems items → LawfulItem (get_or items i d)
lawful_at [] i d low h = absurd (omega arith)
lawful_at (j ∷ items) zero d low h = h.0
lawful_at (j ∷ items) (suc i) d low h = lawful_at items i d (omega arith) h.1

-- the same of items that are those of the program
pub items_lawful-same : (items program : List SourceItem) → items ≡ program → LawfulItems program → LawfulItems items
items_lawful-same items program same h = subst LawfulItems (sym same) h

-- ---- what is read is lawful

-- an answer that a test gives
of_test : {A : Type 0} (P : A → Type 0) (b : Bool) (x y : A) → (if b then Some x else None) ≡ Some y → (b ≡ true → P x) → P y
of_test P true x y e h = let same : x ≡ y = cc in subst P same (h refl)
of_test P false x y e h = absurd cc

target_in_lawful : (a : BareAtPat-F BareAtPat BarePField BarePat) (t : Target) → target_in a ≡ Some t → LawfulTarget t
target_in_lawful (BareAtPat-F.Any p) t e = let same : Wild ≡ t = cc in subst LawfulTarget same tt
target_in_lawful (BareAtPat-F.PId p o (q, x ∷ [])) t e = of_test LawfulTarget (is_free x) (Var x) t e (λ h. h)
target_in_lawful _ t e = absurd cc

target_of_lawful : (a : BarePat-F BareAtPat BarePField BarePat) (t : Target) → target_of a ≡ Some t → LawfulTarget t
target_of_lawful (BarePat-F.PAtom p a) t e = target_in_lawful (out-BareAtPat a) t e
target_of_lawful _ t e = absurd cc

literal_in_lawful : (a : BareAtExp-F BareAtExp BareDec BareExp BareRule) (v : Value) → literal_in a ≡ Some v → LawfulValue v
literal_in_lawful (BareAtExp-F.Lit p l) v e = of_test LawfulValue (is_literal l) (Literal l) v e (λ h. h)
literal_in_lawful _ v e = absurd cc

printed_in_lawful : (a : BareAtExp-F BareAtExp BareDec BareExp BareRule) (v : Value) → printed_in a ≡ Some v → LawfulValue v
printed_in_lawful (BareAtExp-F.Lit p (lit.Text s)) v e = of_test LawfulValue (are_bytes s) (Printed s) v e (λ h. h)
printed_in_lawful _ v e = absurd cc

call_lawful : (b : Bool) (a : BareAtExp-F BareAtExp BareDec BareExp BareRule) (v : Value) → (if b then printed_in a else None) ≡ Some v → LawfulValue v
call_lawful true a v e = printed_in_lawful a v e
call_lawful false a v e = absurd cc

value_of_lawful : (a : BareExp-F BareAtExp BareDec BareExp BareRule) (v : Value) → value_of a ≡ Some v → LawfulValue v
value_of_lawful (BareExp-F.Apply p (a ∷ [])) v e = literal_in_lawful (out-BareAtExp a) v e
value_of_lawful (BareExp-F.Apply p (f ∷ a ∷ [])) v e = call_lawful (is_print (out-BareAtExp f)) (out-BareAtExp a) v e
value_of_lawful _ v e = absurd cc

item_lawful : (o : Option Target) (q : Option Value) (items : List SourceItem) → ((t : Target) → o ≡ Some t → LawfulTarget t)
    → ((v : Value) → q ≡ Some v → LawfulValue v) → option_map (λ i. i ∷ []) (item_of o q) ≡ Some items → LawfulItems items
item_lawful None q items f g e = absurd cc
item_lawful (Some t) None items f g e = absurd cc
item_lawful (Some t) (Some v) items f g e =
    let same : record { target = t; value = v } ∷ [] ≡ items = cc in
    subst LawfulItems same ((f t refl, g v refl), tt)

dec_lawful : (d : BareDec-F BareAtExp BareDec BareExp BareRule) (items : List SourceItem) → items_of_dec d ≡ Some items → LawfulItems items
dec_lawful (BareDec-F.Vals p [] false (b ∷ [])) items e =
    item_lawful (target_of (out-BarePat b.0)) (value_of (out-BareExp b.1)) items (target_of_lawful (out-BarePat b.0)) (value_of_lawful (out-BareExp b.1)) e
dec_lawful (BareDec-F.Fix p r d xs) items e = of_test LawfulItems (all_known xs) [] items e (λ h. tt)
dec_lawful (BareDec-F.Nonfix p xs) items e = of_test LawfulItems (all_known xs) [] items e (λ h. tt)
dec_lawful _ items e = absurd cc

strdec_lawful : (d : BareStrDec-F BareStrBind BareStrDec BareStrExp) (items : List SourceItem) → items_of_strdec d ≡ Some items → LawfulItems items
strdec_lawful (BareStrDec-F.Core p d) items e = dec_lawful (out-BareDec d) items e
strdec_lawful _ items e = absurd cc

top_lawful : (t : BareTop) (items : List SourceItem) → items_of_top t ≡ Some items → LawfulItems items
top_lawful (top.Strs p d) items e = strdec_lawful (out-BareStrDec d) items e
top_lawful _ items e = absurd cc

tops_lawful : (ts : List BareTop) (items : List SourceItem) → read_tops ts ≡ Ok items → LawfulItems items
tops_lawful [] items e = let same : [] ≡ items = cc in subst LawfulItems same tt
tops_lawful (t ∷ ts) items e = by (items_of_top t) (read_tops ts) (top_lawful t) (tops_lawful ts) e where
  by : (o : Option (List SourceItem)) (r : Result (List SourceItem) Place) → ((is : List SourceItem) → o ≡ Some is → LawfulItems is)
      → ((more : List SourceItem) → r ≡ Ok more → LawfulItems more) → read_on o (place_of t) r ≡ Ok items → LawfulItems items
  by None r f g e = absurd cc
  by (Some is) (Err place) f g e = absurd cc
  by (Some is) (Ok more) f g e = let same : is ++ more ≡ items = cc in subst LawfulItems same (lawful_append is more (f is refl) (g more refl))

-- the items of a program are lawful
pub items_lawful : (p : BareProgram) (items : List SourceItem) → AreItems p items → LawfulItems items
items_lawful p items h = tops_lawful (tops_of p) items h
