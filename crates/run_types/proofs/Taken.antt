-- What a pattern takes from a typed value has the types of the pattern's variables.
use Rattle.std.proofs.Common.{◌≡◌, ℕ, zero, suc, List, [], ◌∷◌, Option, Some, None, Bool, true, false, if◌then◌else◌, slice_get, refl, sym, ap, ◌∙◌, subst}
use Rattle.std.proofs.lemmas.Bool.{eqb-true}
use Rattle.run_types.proofs.Put.{OptHas}
use Rattle.run_types.specs.Types.{AllAlways, Always, ConsT, Ctx, HasFall, HasFuns, HasPat, HasPats, HasRules, HasTag, HasVal, HasVals, HoldsAll, NilT, TArr, TData, TRef, TTup, Ty, Types, Tys, World, const_ty, inst_all, no_ctx}
use Rattle.runs.proofs.Paths.{name_same, part_same}
use Rattle.runs.specs.Env.{Env, empty, first, names, put}
use Rattle.runs.specs.Names.{Name, same, same_part}
use Rattle.runs.specs.Patterns.{both, content, layer, matched, matched_all, no_match, same_const, tagged}
use Rattle.runs.specs.Primitives.{find}
use Rattle.runs.specs.Tree.{Broken, Char, Con, Const, Datum, Drawn, Exn, Fall, Fun, Funs, Int, Item, Loc, Named, NoFuns, NoVals, PAny, PCell, PCon, PExn, PLayer, PLit, PMore, PNil, PTup, PVar, Pat, Pats, Rules, Str, Tag, Tup, Val, Vals}

abbrev pub ty_or : Ty → Option Ty → Ty
ty_or d None = d
ty_or d (Some t) = t

abbrev pub tys_or : Tys → Option Tys → Tys
tys_or d None = d
tys_or d (Some t) = t

pub some_ty : (t u : Ty) → Some t ≡ Some u → t ≡ u
some_ty t u e = ap (ty_or t) e

pub some_tys : (t u : Tys) → Some t ≡ Some u → t ≡ u
some_tys t u e = ap (tys_or t) e

abbrev args_of : Ty → Tys
args_of (TTup ts) = ts
args_of (TData d b ts) = ts
args_of _ = NilT

abbrev data_of : Ty → ℕ
data_of (TData d b ts) = d
data_of _ = 0

abbrev content_of : Ty → Ty
content_of (TRef t) = t
content_of t = t

-- memory
abbrev pub GivesVal : World → Ty → Option Val → Type 0
GivesVal w t None = ⊥
GivesVal w t (Some v) = HasVal w v t

pub holds_get : (w : World) (ts : List Ty) (vs : List Val) (l : ℕ) (t : Ty) → HoldsAll w ts vs → slice_get ts l ≡ Some t → GivesVal w t (slice_get vs l)
holds_get w [] [] l t h q = absurd (cc q)
holds_get w (u ∷ ts) (x ∷ vs) zero t h q = subst (HasVal w x) (some_ty u t q) h.0
holds_get w (u ∷ ts) (x ∷ vs) (suc l) t h q = holds_get w ts vs l t h.1 q
holds_get w [] (x ∷ vs) l t h q = absurd h
holds_get w (u ∷ ts) [] l t h q = absurd h

abbrev pub MatchOk : World → Types → Option Env → Type 0
MatchOk w c None = Unit {0}
MatchOk w c (Some b) = (y : Name) (t : Ty) → c y ≡ Some t → OptHas w t (b y)

ok_if : (w : World) (c : Types) (b : Bool) (o : Option Env) → (b ≡ true → MatchOk w c o) → MatchOk w c (if b then o else no_match)
ok_if w c true o h = h refl
ok_if w c false o h = tt

var_if : (w : World) (t : Ty) (b : Bool) (v : Val) (o : Option Val) → (b ≡ true → HasVal w v t) → OptHas w t o → OptHas w t (if b then Some v else o)
var_if w t true v o h k = h refl
var_if w t false v o h k = k

-- a variable of the pattern
put_ok : (w : World) (c : Types) (x : Name) (u : Ty) (v : Val) (b : Env) → c x ≡ Some u → HasVal w v u → ((y : Name) (t : Ty) → c y ≡ Some t → OptHas w t (b y)) → (y : Name) (t : Ty) → c y ≡ Some t → OptHas w t (put x v b y)
put_ok w c x u v b cx hv h y t cy =
    var_if w t (same x y) v (b y) (λ e. subst (HasVal w v) (some_ty u t (sym cx ∙ ap c (name_same x y e) ∙ cy)) hv) (h y t cy)

ok_layer : (w : World) (c : Types) (x : Name) (u : Ty) (v : Val) (o : Option Env) → c x ≡ Some u → HasVal w v u → MatchOk w c o → MatchOk w c (layer x v o)
ok_layer w c x u v None cx hv h = tt
ok_layer w c x u v (Some b) cx hv h = put_ok w c x u v b cx hv h

first_has : (w : World) (t : Ty) (o p : Option Val) → OptHas w t o → OptHas w t p → OptHas w t (first o p)
first_has w t None p h k = k
first_has w t (Some v) p h k = h

ok_both : (w : World) (c : Types) (o p : Option Env) → MatchOk w c o → MatchOk w c p → MatchOk w c (both o p)
ok_both w c None p h k = tt
ok_both w c (Some a) None h k = tt
ok_both w c (Some a) (Some b) h k = λ y t e. first_has w t (a y) (b y) (h y t e) (k y t e)

ok_content : (w : World) (t : Ty) (c : Types) (o : Option Val) (g : Val → Option Env) → GivesVal w t o → ((v : Val) → HasVal w v t → MatchOk w c (g v)) → MatchOk w c (content o g)
ok_content w t c None g h k = tt
ok_content w t c (Some v) g h k = k v h

tag_is : (w : World) (t : Tag) (j : ℕ) (as1 bs : Tys) → HasTag w no_ctx t as1 → slice_get w.exns j ≡ Some bs → tagged t j ≡ true → bs ≡ as1
tag_is w (Named x) j as1 bs h q e = absurd h
tag_is w (Drawn k) j as1 bs h q e = some_tys bs as1 (sym q ∙ ap (slice_get w.exns) (sym (eqb-true k j e)) ∙ h)
tag_is w Broken j as1 bs h q e = absurd h

mutual
  pub match_has : (w : World) (m : List Val) (p : Pat) (v : Val) (u : Ty) (c : Types) → HoldsAll w w.cells m → HasPat w no_ctx p u c → HasVal w v u → MatchOk w c (matched m p v)
  match_has w m PAny v u c hm h hv = λ y t e. tt
  match_has w m (PVar x) v u c hm h hv = put_ok w c x u v empty h hv (λ y t e. tt)
  match_has w m (PLit n) (Datum j) u c hm h hv = ok_if w c (same_const n j) (Some empty) (λ e y t d. tt)
  match_has w m (PTup ps) (Tup vs) u c hm h hv = all_has w m ps vs h.0 c hm h.2 (subst (HasVal w (Tup vs)) h.1 hv)
  match_has w m (PCon i ps) (Con j vs) u c hm h hv =
      let d = subst (HasVal w (Con j vs)) h.5 hv in
      ok_if w c (same_part i j) (matched_all m ps vs)
      (λ e. all_has w m ps vs (inst_all h.2 h.3) c hm h.6 (subst (λ x. HasVals w vs (inst_all h.2 x)) (some_tys d.0 h.3 (sym d.1 ∙ ap (w.datas h.0 h.1) (sym (part_same i j e)) ∙ h.4)) d.2))
  match_has w m (PExn t ps) (Exn j vs) u c hm h hv =
      let d = subst (HasVal w (Exn j vs)) h.2 hv in
      ok_if w c (tagged t j) (matched_all m ps vs) (λ e. all_has w m ps vs h.0 c hm h.3 (subst (HasVals w vs) (tag_is w t j h.0 d.0 h.1 d.1 e) d.2))
  match_has w m (PCell p) (Loc l) u c hm h hv =
      let d = subst (HasVal w (Loc l)) h.1 hv in
      ok_content w h.0 c (slice_get m l) (λ v. matched m p v) (holds_get w w.cells m l h.0 hm d) (λ v k. match_has w m p v h.0 c hm h.2 k)
  match_has w m (PLayer x p) v u c hm h hv = ok_layer w c x u v (matched m p v) h.0 hv (match_has w m p v u c hm h.1 hv)
  match_has w m _ _ u c hm h hv = tt

  all_has : (w : World) (m : List Val) (ps : Pats) (vs : Vals) (us : Tys) (c : Types) → HoldsAll w w.cells m → HasPats w no_ctx ps us c → HasVals w vs us → MatchOk w c (matched_all m ps vs)
  all_has w m PNil NoVals NilT c hm h hv = λ y t e. tt
  all_has w m (PMore p ps) (Item v vs) (ConsT u us) c hm h hv = ok_both w c (matched m p v) (matched_all m ps vs) (match_has w m p v u c hm h.0 hv.0) (all_has w m ps vs us c hm h.1 hv.1)
  all_has w m PNil NoVals (ConsT u us) c hm h hv = absurd h
  all_has w m (PMore p ps) (Item v vs) NilT c hm h hv = absurd h
  all_has w m _ _ us c hm h hv = tt

-- the rules of a function of a group, and their types
abbrev pub FoundRules : World → Ctx → Types → Name → Option (Fall × Rules) → Type 0
FoundRules w g c f o = (b : Fall × Rules) × (a : Ty) × (r : Ty) × (o ≡ Some b) × (c f ≡ Some (TArr a r)) × HasFall w b.0 b.1 × HasRules w g (λ u. u ≡ a) b.1 r

found_case : (w : World) (g : Ctx) (c : Types) (f : Name) (b n : Bool) (l : Fall) (rs : Rules) (o : Option (Fall × Rules)) (a r : Ty) → (b ≡ true → c f ≡ Some (TArr a r)) → HasFall w l rs → HasRules w g (λ u. u ≡ a) rs r → (n ≡ true → FoundRules w g c f o) → (if b then true else n) ≡ true → FoundRules w g c f (if b then Some (l, rs) else o)
found_case w g c f true n l rs o a r q hl h k e = ((l, rs), a, r, refl, q refl, hl, h)
found_case w g c f false n l rs o a r q hl h k e = k e

pub found_rules : (w : World) (g : Ctx) (c : Types) (f : Name) (fs : Funs) → HasFuns w g fs c → names fs f ≡ true → FoundRules w g c f (find f fs)
found_rules w g c f NoFuns h e = absurd (cc e)
found_rules w g c f (Fun k l rs fs) h e = found_case w g c f (same k f) (names fs f) l rs (find f fs) h.0 h.1 (λ q. ap c (sym (name_same k f q)) ∙ h.2) h.3 h.4 (λ i. found_rules w g c f fs h.5 i) e

-- a pattern that always takes its value takes each value of its type
pub datum_tup : (n : Const) (us : Tys) → TTup us ≡ const_ty n → ⊥
datum_tup (Int i) us q = cc q
datum_tup (Char i) us q = cc q
datum_tup (Str i) us q = cc q

pub datum_ref : (n : Const) (a : Ty) → TRef a ≡ const_ty n → ⊥
datum_ref (Int i) a q = cc q
datum_ref (Char i) a q = cc q
datum_ref (Str i) a q = cc q

abbrev pub Takes : Option Env → Type 0
Takes None = ⊥
Takes (Some b) = Unit {0}

takes_layer : (x : Name) (v : Val) (o : Option Env) → Takes o → Takes (layer x v o)
takes_layer x v None h = h
takes_layer x v (Some b) h = tt

takes_both : (o p : Option Env) → Takes o → Takes p → Takes (both o p)
takes_both None p h k = absurd h
takes_both (Some a) None h k = k
takes_both (Some a) (Some b) h k = tt

takes_content : (w : World) (t : Ty) (o : Option Val) (g : Val → Option Env) → GivesVal w t o → ((v : Val) → HasVal w v t → Takes (g v)) → Takes (content o g)
takes_content w t None g h k = h
takes_content w t (Some v) g h k = k v h

mutual
  pub always_takes : (w : World) (m : List Val) (p : Pat) (v : Val) (u : Ty) (c : Types) → HoldsAll w w.cells m → Always p → HasPat w no_ctx p u c → HasVal w v u → Takes (matched m p v)
  always_takes w m PAny v u c hm al h hv = tt
  always_takes w m (PVar x) v u c hm al h hv = tt
  always_takes w m (PTup ps) (Tup vs) u c hm al h hv = all_take w m ps vs h.0 c hm al h.2 (subst (HasVal w (Tup vs)) h.1 hv)
  always_takes w m (PTup ps) (Datum n) u c hm al h hv = absurd (datum_tup n h.0 (sym h.1 ∙ hv))
  always_takes w m (PTup ps) v u c hm al h hv = absurd (subst (HasVal w v) h.1 hv)
  always_takes w m (PCell p) (Loc l) u c hm al h hv = takes_content w h.0 (slice_get m l) (λ v. matched m p v) (holds_get w w.cells m l h.0 hm (subst (HasVal w (Loc l)) h.1 hv)) (λ v k. always_takes w m p v h.0 c hm al h.2 k)
  always_takes w m (PCell p) (Datum n) u c hm al h hv = absurd (datum_ref n h.0 (sym h.1 ∙ hv))
  always_takes w m (PCell p) v u c hm al h hv = absurd (subst (HasVal w v) h.1 hv)
  always_takes w m (PLayer x p) v u c hm al h hv = takes_layer x v (matched m p v) (always_takes w m p v u c hm al h.1 hv)
  always_takes w m _ v u c hm al h hv = absurd al

  all_take : (w : World) (m : List Val) (ps : Pats) (vs : Vals) (us : Tys) (c : Types) → HoldsAll w w.cells m → AllAlways ps → HasPats w no_ctx ps us c → HasVals w vs us → Takes (matched_all m ps vs)
  all_take w m PNil NoVals us c hm al h hv = tt
  all_take w m (PMore p ps) (Item v vs) (ConsT u us) c hm al h hv = takes_both (matched m p v) (matched_all m ps vs) (always_takes w m p v u c hm al.0 h.0 hv.0) (all_take w m ps vs us c hm al.1 h.1 hv.1)
  all_take w m PNil (Item v vs) (ConsT u us) c hm al h hv = absurd h
  all_take w m PNil (Item v vs) NilT c hm al h hv = absurd hv
  all_take w m (PMore p ps) NoVals (ConsT u us) c hm al h hv = absurd hv
  all_take w m (PMore p ps) _ NilT c hm al h hv = absurd h
