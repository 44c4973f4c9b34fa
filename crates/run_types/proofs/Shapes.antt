-- Rules that take each value of a shape still do when values are put in, and in a larger world.
use Rattle.std.proofs.Common.{ℕ, inl, inr, List, Option, Some, None, Bool, true, false, if◌then◌else◌, slice_get}
use Rattle.run_types.specs.Safe.{Sub}
use Rattle.run_types.specs.Types.{AllShaped, ConsT, NilT, Shaped, TArr, TData, TExn, TNam, TRef, TTup, TakesOne, Took, Ty, Tys, Whole, World, inst_all}
use Rattle.runs.specs.Env.{Env, close_pat, close_pats, close_rules, close_tag}
use Rattle.runs.specs.Names.{Name, same_part}
use Rattle.runs.specs.Patterns.{both, content, layer, matched, matched_all, no_match, tagged}
use Rattle.runs.specs.Tree.{Broken, Clo, Con, Datum, Drawn, Exn, Item, Loc, Nam, Named, NoVals, PAny, PCell, PCon, PExn, PLayer, PLit, PMore, PNil, PTup, PVar, Pat, Pats, Prim, Rec, Rule, Rules, Stop, Tag, Tup, Val, Vals}

took_if : (b : Bool) (o p : Option Env) → (Took o → Took p) → Took (if b then o else no_match) → Took (if b then p else no_match)
took_if true o p f h = f h
took_if false o p f h = h

took_layer : (x : Name) (v : Val) (o p : Option Env) → (Took o → Took p) → Took (layer x v o) → Took (layer x v p)
took_layer x v None p f h = absurd h
took_layer x v (Some b) None f h = f tt
took_layer x v (Some b) (Some c) f h = tt

took_both : (o p q r : Option Env) → (Took o → Took q) → (Took p → Took r) → Took (both o p) → Took (both q r)
took_both None p q r f g h = absurd h
took_both (Some a) None q r f g h = absurd h
took_both (Some a) (Some b) None r f g h = f tt
took_both (Some a) (Some b) (Some c) None f g h = g tt
took_both (Some a) (Some b) (Some c) (Some d) f g h = tt

took_content : (o : Option Val) (f g : Val → Option Env) → ((v : Val) → Took (f v) → Took (g v)) → Took (content o f) → Took (content o g)
took_content None f g k h = h
took_content (Some v) f g k h = k v h

-- an exception that is read at a path is not known before its value is put in
took_exn : (env : Env) (t : Tag) (j : ℕ) (o p : Option Env) → (Took o → Took p) → Took (if tagged t j then o else no_match) → Took (if tagged (close_tag env t) j then p else no_match)
took_exn env (Named x) j o p f h = absurd h
took_exn env (Drawn k) j o p f h = took_if (tagged (Drawn k) j) o p f h
took_exn env Broken j o p f h = absurd h

mutual
  pub took_close : (env : Env) (m : List Val) (p : Pat) (v : Val) → Took (matched m p v) → Took (matched m (close_pat env p) v)
  took_close env m PAny v h = tt
  took_close env m (PVar x) v h = tt
  took_close env m (PLit n) (Datum j) h = h
  took_close env m (PTup ps) (Tup vs) h = all_took env m ps vs h
  took_close env m (PCon c ps) (Con d vs) h = took_if (same_part c d) (matched_all m ps vs) (matched_all m (close_pats env ps) vs) (all_took env m ps vs) h
  took_close env m (PExn t ps) (Exn j vs) h = took_exn env t j (matched_all m ps vs) (matched_all m (close_pats env ps) vs) (all_took env m ps vs) h
  took_close env m (PCell p) (Loc l) h = took_content (slice_get m l) (λ v. matched m p v) (λ v. matched m (close_pat env p) v) (λ v. took_close env m p v) h
  took_close env m (PLayer x p) v h = took_layer x v (matched m p v) (matched m (close_pat env p) v) (took_close env m p v) h
  took_close env m _ v h = absurd h

  all_took : (env : Env) (m : List Val) (ps : Pats) (vs : Vals) → Took (matched_all m ps vs) → Took (matched_all m (close_pats env ps) vs)
  all_took env m PNil NoVals h = tt
  all_took env m (PMore p ps) (Item v vs) h = took_both (matched m p v) (matched_all m ps vs) (matched m (close_pat env p) v) (matched_all m (close_pats env ps) vs) (took_close env m p v) (all_took env m ps vs) h
  all_took env m _ _ h = absurd h

pub takes_close : (env : Env) (m : List Val) (rs : Rules) (v : Val) → TakesOne m rs v → TakesOne m (close_rules env rs) v
takes_close env m Stop v h = h
takes_close env m (Rule p b rs) v (inl h) = inl (took_close env m p v h)
takes_close env m (Rule p b rs) v (inr h) = inr (takes_close env m rs v h)

pub whole_close : (w : World) (env : Env) (u : Ty) (rs : Rules) → Whole w u rs → Whole w u (close_rules env rs)
whole_close w env u rs q = λ m v h. takes_close env m rs v (q m v h)

-- a shape of the larger world
mutual
  shape_down : (w k : World) → Sub w k → (v : Val) (t : Ty) → Shaped k v t → Shaped w v t
  shape_down w k s (Datum n) t h = h
  shape_down w k s (Tup vs) (TTup ts) h = shapes_down w k s vs ts h
  shape_down w k s (Con i vs) (TData d b us) h = (h.0, s.same d b i h.0 h.1, shapes_down w k s vs (inst_all us h.0) h.2)
  shape_down w k s (Clo f rs) (TArr a r) h = h
  shape_down w k s (Rec fs f) (TArr a r) h = h
  shape_down w k s (Prim p vs) (TArr a r) h = h
  shape_down w k s (Loc l) (TRef t) h = h
  shape_down w k s (Nam i) (TNam ts) h = h
  shape_down w k s (Exn i vs) TExn h = h
  shape_down w k s _ _ h = absurd h

  shapes_down : (w k : World) → Sub w k → (vs : Vals) (ts : Tys) → AllShaped k vs ts → AllShaped w vs ts
  shapes_down w k s NoVals NilT h = h
  shapes_down w k s (Item v vs) (ConsT t ts) h = (shape_down w k s v t h.0, shapes_down w k s vs ts h.1)
  shapes_down w k s _ _ h = absurd h

pub whole_up : (w k : World) → Sub w k → (u : Ty) (rs : Rules) → Whole w u rs → Whole k u rs
whole_up w k s u rs q = λ m v h. q m v (shape_down w k s v u h)
