-- The written text types, and what it binds.
use Rattle.std.proofs.Common.{◌≡◌, ℕ, suc, ◌+◌, ◌<◌, ◌^◌, List, [], ◌∷◌, length, Option, Some, true, false, refl, sym, ◌∙◌, ap, arith, subst, ◌⊎◌, inl, inr}
use Rattle.std.specs.Prelude.{codes}
use Rattle.std.proofs.lemmas.Slice.Eq.{bytes_eq-Decides}
use Rattle.oc_names.specs.Mangled.{mangled}
use Rattle.oc_names.specs.declared.names.NameKind.TheVariants as kind
use Rattle.built_items.specs.declared.item.SourceItem.{SourceItem}
use Rattle.built_items.specs.declared.item.Target.{Target}
use Rattle.built_items.specs.declared.item.Target.TheVariants as target
use Rattle.built_items.specs.declared.item.Value.{Value}
use Rattle.built_items.specs.declared.item.Value.TheVariants as value
use Rattle.tl_session.specs.Static as sml
use Rattle.tl_session.specs.Kept.{Source, unit_of, image}
use Rattle.tl_session.specs.OcTypes.{Ty, Arrow, int, string, unit, Env, Empty, AddVal, AddType, AddMod, val_at, over, HasInstance, LiteralHas, IsNonExpansive, IsClosed, AtFresh, SimpleHas, PatBinds, ItemBinds, ItemsBind, ModuleNotIn, predefined, OcText, inst}
use Rattle.oc_ast.specs.Plain.{Let, PItems, NoItems, MoreItems}
use Rattle.tl_session.specs.Written.{word_item, print_item, items_tree, target_tree, value_tree, literal_of, base_of, unit_name}
use Rattle.tl_session.specs.Faithful.{texts_from, joined, whole}
use Rattle.tl_session.proofs.UnitNames.{unit_number}
use Rattle.tl_text.specs.declared.lit.Lit.{Lit}
use Rattle.tl_text.specs.declared.lit.Lit.TheVariants as lit

-- what a target of this type binds over base
abbrev pub target_env : Target → sml.Ty → Env → Env
target_env target.Wild t base = base
target_env (target.Var x) t base = AddVal (mangled kind.Value x) (image t) base

-- what the items of a unit bind over base
abbrev pub items_env : List SourceItem → Env → Env
items_env [] base = base
items_env (i ∷ items) base = items_env items (target_env i.target (sml.value_type i.value) base)

-- what the units bind over base
abbrev pub units_env : ℕ → List Source → List (List SourceItem) → Env → Env
units_env k (s ∷ sources) (p ∷ programs) base = units_env (suc k) sources programs (AddMod (unit_of k s) (items_env p Empty) base)
units_env k _ _ base = base

pub over-empty : (e : Env) → over e Empty ≡ e
over-empty Empty = refl
over-empty (AddVal y u e) = ap (AddVal y u) (over-empty e)
over-empty (AddType y u e) = ap (AddType y u) (over-empty e)
over-empty (AddMod y b e) = ap (AddMod y b) (over-empty e)

pub over-over : (a b c : Env) → over (over a b) c ≡ over a (over b c)
over-over Empty b c = refl
over-over (AddVal y u a) b c = ap (AddVal y u) (over-over a b c)
over-over (AddType y u a) b c = ap (AddType y u) (over-over a b c)
over-over (AddMod y d a) b c = ap (AddMod y d) (over-over a b c)

target_env-over : (t : Target) (u : sml.Ty) (base : Env) → target_env t u base ≡ over (target_env t u Empty) base
target_env-over target.Wild u base = refl
target_env-over (target.Var x) u base = refl

items_env-over : (is : List SourceItem) (base : Env) → items_env is base ≡ over (items_env is Empty) base
items_env-over [] base = refl
items_env-over (i ∷ is) base =
    let v : Env → Env = target_env i.target (sml.value_type i.value) in
    items_env-over is (v base)
    ∙ (ap (over (items_env is Empty)) (target_env-over i.target (sml.value_type i.value) base)
    ∙ sym (ap (λ e. over e base) (items_env-over is (v Empty)) ∙ over-over (items_env is Empty) (v Empty) base))

pub units_env-over : (k : ℕ) (ss : List Source) (ps : List (List SourceItem)) (base : Env) → units_env k ss ps base ≡ over (units_env k ss ps Empty) base
units_env-over k [] ps base = refl
units_env-over k (s ∷ ss) [] base = refl
units_env-over k (s ∷ ss) (p ∷ ps) base =
    let m : Env → Env = AddMod (unit_of k s) (items_env p Empty) in
    units_env-over (suc k) ss ps (m base)
    ∙ sym (ap (λ e. over e base) (units_env-over (suc k) ss ps (m Empty)) ∙ over-over (units_env (suc k) ss ps Empty) (m Empty) base)

-- the path of print in Rt
abbrev pub print_path : List (List ℕ)
print_path = codes "Rt" ∷ codes "print" ∷ []

has_print : (g : Env) → val_at print_path g ≡ Some (Arrow string unit) → HasInstance (val_at print_path g) (Arrow string unit)
has_print g h = let P : Option Ty → Type 0 = λ o. HasInstance o (Arrow string unit) in subst P (sym h) ((λ i. unit), (λ i. tt), refl)

literal_has : (l : Lit) → LiteralHas (literal_of l) (image (sml.type_of l))
literal_has (lit.Int z) = refl
literal_has (lit.Word n) = refl
literal_has (lit.Char c) = refl
literal_has (lit.Text t) = refl

literal_inst : (us : ℕ → Ty) (l : Lit) → inst us (image (sml.type_of l)) ≡ image (sml.type_of l)
literal_inst us (lit.Int z) = refl
literal_inst us (lit.Word n) = refl
literal_inst us (lit.Char c) = refl
literal_inst us (lit.Text t) = refl

-- a literal generalises, and what print gives has no variable
may_stand : (v : Value) → IsNonExpansive (value_tree v) ⊎ IsClosed (image (sml.value_type v))
may_stand (value.Literal l) = inl tt
may_stand (value.Printed s) = inr tt

value_has : (g : Env) (v : Value) → val_at print_path g ≡ Some (Arrow string unit) → AtFresh (λ us. SimpleHas g (value_tree v) (inst us (image (sml.value_type v))))
value_has g (value.Literal l) h = (0, λ v one low. let P : Ty → Type 0 = λ t. LiteralHas (literal_of l) t in subst P (sym (literal_inst _ l)) (literal_has l))
value_has g (value.Printed s) h = (0, λ v one low. (string, has_print g h, refl))

target_binds : (t : Target) (u : sml.Ty) → PatBinds (target_tree t) (image u) (target_env t u Empty)
target_binds target.Wild u = refl
target_binds (target.Var x) u = refl

-- an item types where print is at its path, and leaves it there
item_binds : (g : Env) (i : SourceItem) (rest : PItems) → val_at print_path g ≡ Some (Arrow string unit)
    → ItemBinds g (Let (target_tree i.target) (value_tree i.value)) rest (target_env i.target (sml.value_type i.value) Empty)
item_binds g i rest h = (image (sml.value_type i.value), may_stand i.value, value_has g i.value h, target_binds i.target (sml.value_type i.value))

print_stays : (g : Env) (t : Target) (u : sml.Ty) → val_at print_path g ≡ Some (Arrow string unit) → val_at print_path (over (target_env t u Empty) g) ≡ Some (Arrow string unit)
print_stays g target.Wild u h = h
print_stays g (target.Var x) u h = h

-- the items of a unit type where print is at its path
items_bind : (g : Env) (is : List SourceItem) → val_at print_path g ≡ Some (Arrow string unit) → ItemsBind g (items_tree is) (items_env is Empty)
items_bind g [] h = refl
items_bind g (i ∷ is) h =
    let own : Env = target_env i.target (sml.value_type i.value) Empty in
    (own, item_binds g i (items_tree is) h, items_env is Empty, items_bind (over own g) is (print_stays g i.target (sml.value_type i.value) h), items_env-over is own)

-- no module of the texts from number k on has the name of a unit with a smaller number, or of Rt
unit_not_in : (j k : ℕ) (b : List ℕ) (ss : List Source) (ps : List (List SourceItem)) → j < k → k + length ss < 2 ^ 64
    → ModuleNotIn (unit_name j b) (joined (texts_from k ss ps))
unit_not_in j k b [] ps h low = tt
unit_not_in j k b (s ∷ ss) [] h low = tt
unit_not_in j k b (s ∷ ss) (p ∷ ps) h low = (
  (λ e. let same : j ≡ k = unit_number j k b (base_of s.name) (omega arith) (omega arith) e in omega arith),
  unit_not_in j (suc k) b ss ps (omega arith) (omega arith),
)

rt_is_no_unit : false ≡ true → ⊥
rt_is_no_unit e = cc

rt_not_in : (k : ℕ) (ss : List Source) (ps : List (List SourceItem)) → ModuleNotIn (codes "Rt") (joined (texts_from k ss ps))
rt_not_in k [] ps = tt
rt_not_in k (s ∷ ss) [] = tt
rt_not_in k (s ∷ ss) (p ∷ ps) = ((λ e. rt_is_no_unit ((bytes_eq-Decides (codes "Rt") (unit_of k s)).1 e)), rt_not_in (suc k) ss ps)

-- the units type one after another
units_bind : (g : Env) (k : ℕ) (ss : List Source) (ps : List (List SourceItem)) → k + length ss < 2 ^ 64
    → val_at print_path g ≡ Some (Arrow string unit) → ItemsBind g (joined (texts_from k ss ps)) (units_env k ss ps Empty)
units_bind g k [] ps low h = refl
units_bind g k (s ∷ ss) [] low h = refl
units_bind g k (s ∷ ss) (p ∷ ps) low h = (
  AddMod (unit_of k s) (items_env p Empty) Empty,
  (items_env p Empty, items_bind g p h, unit_not_in k (suc k) (base_of s.name) ss ps (omega arith) (omega arith), refl),
  units_env (suc k) ss ps Empty,
  units_bind (AddMod (unit_of k s) (items_env p Empty) g) (suc k) ss ps (omega arith) h,
  units_env-over (suc k) ss ps (AddMod (unit_of k s) (items_env p Empty) Empty),
)

-- what Rt binds
abbrev pub rt_env : Env
rt_env = AddVal (codes "print") (Arrow string unit) (AddType (codes "word") int Empty)

-- what a whole text binds
abbrev pub whole_env : List Source → List (List SourceItem) → Env
whole_env ss ps = units_env 1 ss ps (AddMod (codes "Rt") rt_env Empty)

-- a whole text types
pub whole_types : (ss : List Source) (ps : List (List SourceItem)) → suc (length ss) < 2 ^ 64 → OcText (whole (texts_from 1 ss ps)) (whole_env ss ps)
whole_types ss ps low = (
  AddMod (codes "Rt") rt_env Empty,
  (rt_env, rt_binds, rt_not_in 1 ss ps, refl),
  units_env 1 ss ps Empty,
  units_bind (AddMod (codes "Rt") rt_env predefined) 1 ss ps (omega arith) refl,
  units_env-over 1 ss ps (AddMod (codes "Rt") rt_env Empty),
) where
  rt_binds : ItemsBind predefined (MoreItems word_item (MoreItems print_item NoItems)) rt_env
  rt_binds = (
    AddType (codes "word") int Empty,
    (int, refl, (tt, tt), refl),
    AddVal (codes "print") (Arrow string unit) Empty,
    (
      AddVal (codes "print") (Arrow string unit) Empty,
      (
        Arrow string unit,
        inl tt,
        (0, λ v one low. (string, unit, tt, AddVal (codes "s") string Empty, refl, (string, ((λ i. unit), (λ i. tt), refl), ((λ i. unit), (λ i. tt), refl)), refl)),
        refl,
      ),
      Empty,
      refl,
      refl,
    ),
    refl,
  )
