-- A declaration of a probe is evaluated in the source as its plain text is.
use Rattle.std.proofs.Common.{◌≡◌, ℕ, suc, List, [], ◌++◌, Option, Some, None, refl, sym, ◌∙◌, ap, subst, append-nil}
use Rattle.tl_text.specs.declared.lit.Lit.{Lit}
use Rattle.tl_text.specs.declared.lit.Lit.TheVariants as lit
use Rattle.runs.specs.Tree as run
use Rattle.runs.specs.Env as text
use Rattle.runs.specs.Primitives as prims
use Rattle.runs.specs.Meaning as mean
use Rattle.tl_session.specs.Program.{Exp, Scon, Id, App, Record, Row, Exps, NoExps, MoreExps}
use Rattle.tl_session.specs.Meaning.{Val, Special, Labelled, Nil, Cons, Prints, Vals, NoVals, MoreVals, State, Env, Done, then_do, list_of, eval, eval_all}
use Rattle.tl_session.specs.Static as sml
use Rattle.tl_session.specs.Runs.{atom_tree, atom_trees, simple_tree}
use Rattle.tl_session.specs.Probe.{IsArgument, AreArguments, IsProbing, home_in, homes_in, plain_atom, plain_atoms, plain}
use Rattle.tl_session.proofs.Values.{print_value, img, imgs, labelled, HasVal, HaveVals, Related}

-- an expression makes one value on both sides, and changes nothing
pub record Makes (env : Env) (tenv : text.Env) (e : Exp) (a : run.Exp) (t : sml.Ty) : Type 0 where
  pub value : Val
  pub has : HasVal value t
  pub source : (s : State) → eval env e s ≡ Done value s
  pub text : (go : mean.Go) (s : prims.St) → mean.ev go tenv a s ≡ mean.Done (img value) s

-- the entry that gives a variable its type
entry_of : (o : Option sml.Entry) (t : sml.Ty) → sml.HasEntry o t → (e : sml.Entry) × (o ≡ Some e) × (t ≡ e.type)
entry_of None t h = absurd h
entry_of (Some e) t h = (e, refl, h)

variable_at : (tenv : text.Env) (o : Option sml.Entry) (e : sml.Entry) (v : run.Val) → o ≡ Some e → tenv e.home ≡ Some v
    → (go : mean.Go) (s : prims.St) → mean.ev go tenv (run.Var (home_in o)) s ≡ mean.Done v s
variable_at tenv o e v is at go s = rw (is, at)

variable_makes : (basis : sml.Basis) (env : Env) (tenv : text.Env) (x : List ℕ) (t : sml.Ty) → Related basis env tenv → sml.HasEntry (basis x) t
    → Makes env tenv (Id x) (run.Var (home_in (basis x))) t
variable_makes basis env tenv x t related h =
    let e : _ = entry_of (basis x) t h in
    let v : _ = related x e.0 e.1 in
    record {
      value = v.0;
      has = let P : sml.Ty → Type 0 = λ u. HasVal v.0 u in subst P (sym e.2) v.2;
      source = λ s. rw v.1;
      text = λ go s. variable_at tenv (basis x) e.0 (img v.0) e.1 v.3 go s;
    }

unit_only : (basis : sml.Basis) (ts : sml.Tys) → sml.HaveTypes basis NoExps ts → ts ≡ sml.NoTys
unit_only basis sml.NoTys h = refl
unit_only basis (sml.MoreTys t ts) h = absurd h

pub argument_makes : (basis : sml.Basis) (env : Env) (tenv : text.Env) (e : Exp) (t : sml.Ty) → Related basis env tenv → IsArgument e → sml.HasType basis e t
    → Makes env tenv e (atom_tree (plain_atom (homes_in basis) e)) t
argument_makes basis env tenv (Id x) t related is h = variable_makes basis env tenv x t related h
argument_makes basis env tenv (Scon l) t related is h = record { value = Special l; has = h; source = λ s. refl; text = λ go s. refl }
argument_makes basis env tenv (Record NoExps) t related is h =
    record {
      value = Labelled NoVals;
      has = (sml.NoTys, tt, h.2 ∙ ap sml.Labelled (unit_only basis h.0 h.1));
      source = λ s. refl;
      text = λ go s. refl;
    }
argument_makes basis env tenv (Record (MoreExps e es)) t related is h = absurd is
argument_makes basis env tenv (App f a) t related is h = absurd is
argument_makes basis env tenv (Row es) t related is h = absurd is

-- the same of arguments in a row
pub record MakeAll (env : Env) (tenv : text.Env) (es : Exps) (as' : run.Exps) (P : Vals → Type 0) : Type 0 where
  pub values : Vals
  pub have : P values
  pub source : (s : State) → eval_all env es s ≡ Done values s
  pub text : (go : mean.Go) (s : prims.St) → mean.ev_all go tenv as' s ≡ mean.Done (imgs values) s

one_more : (env : Env) (tenv : text.Env) (e : Exp) (a : run.Exp) (t : sml.Ty) (es : Exps) (as' : run.Exps) (P Q : Vals → Type 0)
    → ((v : Val) (vs : Vals) → HasVal v t → P vs → Q (MoreVals v vs))
    → Makes env tenv e a t → MakeAll env tenv es as' P → MakeAll env tenv (MoreExps e es) (run.Cons a as') Q
one_more env tenv e a t es as' P Q more m ms = record {
  values = MoreVals m.value ms.values;
  have = more m.value ms.values m.has ms.have;
  source = λ s. rw (m.source s, ms.source s);
  text = λ go s. rw (m.text go s, ms.text go s);
}

pub record_makes : (basis : sml.Basis) (env : Env) (tenv : text.Env) (es : Exps) (ts : sml.Tys) → Related basis env tenv → AreArguments es → sml.HaveTypes basis es ts
    → MakeAll env tenv es (atom_trees (plain_atoms (homes_in basis) es)) (λ vs. HaveVals vs ts)
record_makes basis env tenv NoExps sml.NoTys related are h = record { values = NoVals; have = tt; source = λ s. refl; text = λ go s. refl }
record_makes basis env tenv NoExps (sml.MoreTys t ts) related are h = absurd h
record_makes basis env tenv (MoreExps e es) sml.NoTys related are h = absurd h
record_makes basis env tenv (MoreExps e es) (sml.MoreTys t ts) related are h =
    one_more env tenv e (atom_tree (plain_atom (homes_in basis) e)) t es (atom_trees (plain_atoms (homes_in basis) es)) (λ vs. HaveVals vs ts) (λ vs. HaveVals vs (sml.MoreTys t ts))
    (λ v vs p q. (p, q)) (argument_makes basis env tenv e t related are.0 h.0) (record_makes basis env tenv es ts related are.1 h.1)

-- each value has the type
abbrev pub AllHaveVal : Vals → sml.Ty → Type 0
AllHaveVal NoVals u = Unit {0}
AllHaveVal (MoreVals v vs) u = HasVal v u × AllHaveVal vs u

pub row_makes : (basis : sml.Basis) (env : Env) (tenv : text.Env) (es : Exps) (u : sml.Ty) → Related basis env tenv → AreArguments es → sml.AllHaveType basis es u
    → MakeAll env tenv es (atom_trees (plain_atoms (homes_in basis) es)) (λ vs. AllHaveVal vs u)
row_makes basis env tenv NoExps u related are h = record { values = NoVals; have = tt; source = λ s. refl; text = λ go s. refl }
row_makes basis env tenv (MoreExps e es) u related are h =
    one_more env tenv e (atom_tree (plain_atom (homes_in basis) e)) u es (atom_trees (plain_atoms (homes_in basis) es)) (λ vs. AllHaveVal vs u) (λ vs. AllHaveVal vs u)
    (λ v vs p q. (p, q)) (argument_makes basis env tenv e u related are.0 h.0) (row_makes basis env tenv es u related are.1 h.1)

list_has : (vs : Vals) (u : sml.Ty) → AllHaveVal vs u → HasVal (list_of vs) (sml.ListOf u)
list_has NoVals u h = (u, refl)
list_has (MoreVals v vs) u h = (u, h.0, list_has vs u h.1, refl)

list_img : (vs : Vals) → prims.list_of (imgs vs) ≡ img (list_of vs)
list_img NoVals = refl
list_img (MoreVals v vs) = ap (λ w. run.Con prims.cons_part (run.Item (img v) (run.Item w run.NoVals))) (list_img vs)

-- what a declaration of a probe does on both sides: it makes a value, and the output grows by one text
pub record Does (env : Env) (tenv : text.Env) (e : Exp) (a : run.Exp) (t : sml.Ty) : Type 0 where
  pub value : Val
  pub printed : List ℕ
  pub has : HasVal value t
  pub source : (s : State) → eval env e s ≡ Done value (record { output = s.output ++ printed })
  pub text : (n : ℕ) (s : prims.St) → mean.ev (mean.mean (suc n)) tenv a s ≡ mean.Done (img value) (prims.written printed s)

string_is_text : (l : Lit) → sml.String ≡ sml.type_of l → (t : List ℕ) × (l ≡ lit.Text t)
string_is_text (lit.Int z) h = cc
string_is_text (lit.Word n) h = cc
string_is_text (lit.Char c) h = cc
string_is_text (lit.Text t) h = (t, refl)

-- what has the type of strings is a string
text_value : (v : Val) (u : sml.Ty) → HasVal v u → u ≡ sml.String → (t : List ℕ) × (v ≡ Special (lit.Text t))
text_value (Special l) u h e = let t : _ = string_is_text l (sym e ∙ h) in (t.0, ap Special t.1)
text_value (Labelled vs) u h e = let other : sml.String ≡ sml.Labelled h.0 = sym e ∙ h.2 in cc
text_value Nil u h e = let other : sml.String ≡ sml.ListOf h.0 = sym e ∙ h.1 in cc
text_value (Cons v w) u h e = let other : sml.String ≡ sml.ListOf h.0 = sym e ∙ h.3 in cc
text_value Prints u h e = let other : sml.String ≡ sml.Arrow sml.String sml.unit = sym e ∙ h in cc

no_arrow : (l : Lit) (u t : sml.Ty) → sml.Arrow u t ≡ sml.type_of l → ⊥
no_arrow (lit.Int z) u t h = cc
no_arrow (lit.Word n) u t h = cc
no_arrow (lit.Char c) u t h = cc
no_arrow (lit.Text x) u t h = cc

-- what has the type of a function is print
only_print : (v : Val) (u t : sml.Ty) → HasVal v (sml.Arrow u t) → (v ≡ Prints) × (u ≡ sml.String) × (t ≡ sml.unit)
only_print (Special l) u t h = absurd (no_arrow l u t h)
only_print (Labelled vs) u t h = let other : sml.Arrow u t ≡ sml.Labelled h.0 = h.2 in cc
only_print Nil u t h = let other : sml.Arrow u t ≡ sml.ListOf h.0 = h.1 in cc
only_print (Cons v w) u t h = let other : sml.Arrow u t ≡ sml.ListOf h.0 = h.3 in cc
only_print Prints u t h = (refl, cc, cc)

-- a call of Rt.print
pub prints : (tenv : text.Env) (f a : run.Exp) (t : List ℕ) (v : run.Val)
    → ((go : mean.Go) (s : prims.St) → mean.ev go tenv f s ≡ mean.Done print_value s)
    → ((go : mean.Go) (s : prims.St) → mean.ev go tenv a s ≡ mean.Done v s) → v ≡ run.Datum (run.Str t)
    → (n : ℕ) (s : prims.St) → mean.ev (mean.mean (suc n)) tenv (run.Node run.Apply (run.Cons f (run.Cons a run.Nil))) s ≡ mean.Done (run.Tup run.NoVals) (prims.written t s)
prints tenv f a t v hf ha is n s = rw (hf (mean.mean (suc n)) s, ha (mean.mean (suc n)) s, is)

pub written_nothing : (s : prims.St) → prims.written [] s ≡ s
written_nothing s = ap (λ o. record { mem = s.mem; exns = s.exns; out = o }) (append-nil s.out)

pub output_nothing : (s : State) → record { output = s.output ++ [] } ≡ s
output_nothing s = ap (λ (o : List ℕ). let r : State = record { output = o } in r) (append-nil s.output)

applies : (env : Env) (f a : Exp) (v w : Val) (t : List ℕ)
    → ((s : State) → eval env f s ≡ Done v s) → ((s : State) → eval env a s ≡ Done w s) → v ≡ Prints → w ≡ Special (lit.Text t)
    → (s : State) → eval env (App f a) s ≡ Done (Labelled NoVals) (record { output = s.output ++ t })
applies env f a v w t hf ha is_print is_text s = rw (hf s, ha s, is_print, is_text)

-- a record of two labels and more is a tuple
labelled_many : (vs : Vals) (t u : sml.Ty) (us : sml.Tys) → HaveVals vs (sml.MoreTys t (sml.MoreTys u us)) → labelled (imgs vs) ≡ run.Tup (imgs vs)
labelled_many NoVals t u us h = absurd h
labelled_many (MoreVals v NoVals) t u us h = absurd h.1
labelled_many (MoreVals v (MoreVals w vs)) t u us h = refl

tuple_does : (basis : sml.Basis) (env : Env) (tenv : text.Env) (a b : Exp) (more : Exps) (ts : sml.Tys) → Related basis env tenv
    → AreArguments (MoreExps a (MoreExps b more)) → sml.HaveTypes basis (MoreExps a (MoreExps b more)) ts
    → Does env tenv (Record (MoreExps a (MoreExps b more))) (simple_tree (plain (homes_in basis) (Record (MoreExps a (MoreExps b more))))) (sml.Labelled ts)
tuple_does basis env tenv a b more sml.NoTys related are h = absurd h
tuple_does basis env tenv a b more (sml.MoreTys t sml.NoTys) related are h = absurd h.1
tuple_does basis env tenv a b more (sml.MoreTys t (sml.MoreTys u us)) related are h =
    let m : _ = record_makes basis env tenv (MoreExps a (MoreExps b more)) (sml.MoreTys t (sml.MoreTys u us)) related are h in
    record {
      value = Labelled m.values;
      printed = [];
      has = (sml.MoreTys t (sml.MoreTys u us), m.have, refl);
      source = λ s. ap (λ r. then_do r (λ vs s1. Done (Labelled vs) s1)) (m.source s) ∙ ap (Done (Labelled m.values)) (sym (output_nothing s));
      text = λ n s.
          ap (λ r. mean.then_do r (λ vs s1. mean.perform (mean.mean (suc n)) (prims.act run.Pair vs s1) s1)) (m.text (mean.mean (suc n)) s)
          ∙ ap (λ v. mean.Done v s) (sym (labelled_many m.values t u us m.have))
          ∙ ap (mean.Done (img (Labelled m.values))) (sym (written_nothing s));
    }

list_does : (basis : sml.Basis) (env : Env) (tenv : text.Env) (es : Exps) (u : sml.Ty) → Related basis env tenv
    → AreArguments es → sml.AllHaveType basis es u → Does env tenv (Row es) (simple_tree (plain (homes_in basis) (Row es))) (sml.ListOf u)
list_does basis env tenv es u related are h =
    let m : _ = row_makes basis env tenv es u related are h in
    record {
      value = list_of m.values;
      printed = [];
      has = list_has m.values u m.have;
      source = λ s. ap (λ r. then_do r (λ vs s1. Done (list_of vs) s1)) (m.source s) ∙ ap (Done (list_of m.values)) (sym (output_nothing s));
      text = λ n s.
          ap (λ r. mean.then_do r (λ vs s1. mean.perform (mean.mean (suc n)) (prims.act run.ListOf vs s1) s1)) (m.text (mean.mean (suc n)) s)
          ∙ ap (λ v. mean.Done v s) (list_img m.values)
          ∙ ap (mean.Done (img (list_of m.values))) (sym (written_nothing s));
    }

print_does : (basis : sml.Basis) (env : Env) (tenv : text.Env) (f : List ℕ) (a : Exp) (u t : sml.Ty) → Related basis env tenv
    → IsArgument a → sml.HasEntry (basis f) (sml.Arrow u t) → sml.HasType basis a u → Does env tenv (App (Id f) a) (simple_tree (plain (homes_in basis) (App (Id f) a))) t
print_does basis env tenv f a u t related is hf ha =
    let mf : _ = variable_makes basis env tenv f (sml.Arrow u t) related hf in
    let ma : _ = argument_makes basis env tenv a u related is ha in
    let p : _ = only_print mf.value u t mf.has in
    let x : _ = text_value ma.value u ma.has p.1 in
    record {
      value = Labelled NoVals;
      printed = x.0;
      has = (sml.NoTys, tt, p.2);
      source = λ s. applies env (Id f) a mf.value ma.value x.0 mf.source ma.source p.0 x.1 s;
      text = λ n s. prints tenv (run.Var (home_in (basis f))) (atom_tree (plain_atom (homes_in basis) a)) x.0 (img ma.value) (λ go r. mf.text go r ∙ ap (λ w. mean.Done (img w) r) p.0) ma.text (ap img x.1) n s;
    }

-- a declaration of a probe does the same on both sides
pub does : (basis : sml.Basis) (env : Env) (tenv : text.Env) (e : Exp) (t : sml.Ty) → Related basis env tenv → IsProbing e → sml.HasType basis e t
    → Does env tenv e (simple_tree (plain (homes_in basis) e)) t
does basis env tenv (App (Id f) a) t related is h = print_does basis env tenv f a h.0 t related is h.1 h.2
does basis env tenv (App (Scon l) a) t related is h = absurd is
does basis env tenv (App (App f b) a) t related is h = absurd is
does basis env tenv (App (Record es) a) t related is h = absurd is
does basis env tenv (App (Row es) a) t related is h = absurd is
does basis env tenv (Record NoExps) t related is h = absurd is
does basis env tenv (Record (MoreExps a NoExps)) t related is h = absurd is
does basis env tenv (Record (MoreExps a (MoreExps b more))) t related is h =
    let P : sml.Ty → Type 0 = λ u. Does env tenv (Record (MoreExps a (MoreExps b more))) (simple_tree (plain (homes_in basis) (Record (MoreExps a (MoreExps b more))))) u in
    subst P (sym h.2) (tuple_does basis env tenv a b more h.0 related (is.0, (is.1, is.2)) h.1)
does basis env tenv (Row NoExps) t related is h = absurd is
does basis env tenv (Row (MoreExps a more)) t related is h =
    let P : sml.Ty → Type 0 = λ u. Does env tenv (Row (MoreExps a more)) (simple_tree (plain (homes_in basis) (Row (MoreExps a more)))) u in
    subst P (sym h.2) (list_does basis env tenv (MoreExps a more) h.0 related is h.1)
does basis env tenv (Id x) t related is h = absurd is
does basis env tenv (Scon l) t related is h = absurd is
