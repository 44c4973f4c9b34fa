-- The members of a `let rec`: functions with one type each inside their group, and schemes after it.
use Rattle.std.proofs.Common.{◌≡◌, ℕ, ◌+◌, ◌≤◌, Some, true, false, if◌then◌else◌, refl, sym, ap, ◌∙◌, subst, arith}
use Rattle.oc_ast.specs.Plain.{Plain, Poly, PRBinds, NoBinds, MoreBinds}
use Rattle.oc_typing.specs.Ty.{Ty, inst}
use Rattle.oc_typing.specs.Env.{Env}
use Rattle.oc_typing.specs.Variables.{Differ, NoVars, OneVar, Vars, inst_vars, put_vars}
use Rattle.oc_typing.specs.OcTypes.{GroupBinds, Named, group}
use Rattle.oc_steps.specs.Known.{Known}
use Rattle.oc_steps.specs.View.{binds_tree}
use Rattle.run_types.specs.Types as run
use Rattle.run_types.specs.Types.{Ctx, HasFuns, Types, UseAt, World, join, monos}
use Rattle.runs.specs.Env.{names}
use Rattle.runs.specs.Forms.{var}
use Rattle.runs.specs.Names.{Name, same}
use Rattle.runs.specs.Tree as tree
use Rattle.oc_sound.proofs.Lets.{chosen, new_injective, new_vars, same_chosen, scheme_use, schemes, schemes_serve, vars_bound}
use Rattle.oc_sound.proofs.Names.{AllSmall, assoc, assoc_inst, bound_in, inst_bound, inst_differ, inst_small, inst_vars_closed}
use Rattle.oc_sound.proofs.Patterns.{Gives, gives_own, mono_serve}
use Rattle.oc_sound.proofs.Serving.{VarsServe, env_bound, place_change, place_put}
use Rattle.oc_sound.specs.Meant.{meant}
use Rattle.oc_sound.specs.Secure.{SecureBinds}
use Rattle.oc_sound.specs.Words.{Variants, capital}
use Rattle.oc_sound.specs.Served.{Place}

-- the variables are the members, in order
abbrev pub Aligned : PRBinds → Vars → Type 0
Aligned NoBinds NoVars = Unit {0}
Aligned (MoreBinds (Plain x e) rs) (OneVar y t bs) = (x ≡ y) × Aligned rs bs
Aligned _ _ = ⊥

named_aligned : (kinds : Variants) (g : Env) (rs : PRBinds) (bs : Vars) → SecureBinds kinds rs → Named g rs bs → Aligned rs bs
named_aligned kinds g NoBinds bs s n = subst (Aligned NoBinds) (sym n) tt
named_aligned kinds g (MoreBinds (Plain x e) rs) bs s n = subst (Aligned (MoreBinds (Plain x e) rs)) (sym n.3) (refl, named_aligned kinds g rs n.1 s.1 n.2)
named_aligned kinds g (MoreBinds (Poly x vs w e) rs) bs s n = absurd s.0

aligned_inst : (us : ℕ → Ty) (rs : PRBinds) (bs : Vars) → Aligned rs bs → Aligned rs (inst_vars us bs)
aligned_inst us NoBinds NoVars a = tt
aligned_inst us (MoreBinds (Plain x e) rs) (OneVar y t bs) a = (a.0, aligned_inst us rs bs a.1)
aligned_inst us _ _ a = absurd a

group_inst : (us : ℕ → Ty) (rs : PRBinds) (bs : Vars) → Aligned rs bs → group us rs bs ≡ inst_vars us bs
group_inst us NoBinds NoVars a = refl
group_inst us (MoreBinds (Plain x e) rs) (OneVar y t bs) a = ap (OneVar y (inst us t)) (group_inst us rs bs a.1)
group_inst us _ _ a = absurd a

group_names : (k : Known) (rs : PRBinds) (bs : Vars) → Aligned rs bs → (q : Name) → names (binds_tree k rs) q ≡ bound_in bs q
group_names k NoBinds NoVars a q = refl
group_names k (MoreBinds (Plain x e) rs) (OneVar y t bs) a q =
    ap (λ b. if same (var x) q then true else b) (group_names k rs bs a.1 q) ∙ ap (λ z. if same (var z) q then true else bound_in bs q) a.0
group_names k _ _ a q = absurd a

group_small : (kinds : Variants) (rs : PRBinds) (bs : Vars) → SecureBinds kinds rs → Aligned rs bs → AllSmall bs
group_small kinds NoBinds NoVars s a = tt
group_small kinds (MoreBinds (Plain x e) rs) (OneVar y t bs) s a = (subst (λ z. capital z ≡ false) a.0 s.0.0, group_small kinds rs bs s.1 a.1)
group_small kinds _ _ s a = absurd a

pub record GroupTyped (w : World) (x : Ctx) (f : ℕ → run.Ty) (fs : tree.Funs) (bs : Vars) : Type 0 where
  pub own : Ctx
  pub has : (q : Name) (u : run.Ty) → names fs q ≡ true → UseAt (own q) u → (m : Types) × (m q ≡ Some u) × HasFuns w (join (names fs) (monos m) x) fs m
  pub serve : VarsServe f bs own
  pub bound : (q : Name) → names fs q ≡ bound_in bs q
  pub small : AllSmall bs

pub group_typed : (kinds : Variants) (w : World) (k : Known) (g : Env) (f : ℕ → run.Ty) (x : Ctx) → Place w k g f x → (rs : PRBinds) (bs : Vars) → SecureBinds kinds rs → (T : Env → Vars → Type 0)
    → ((d : Env) (h : ℕ → run.Ty) (y : Ctx) → Place w k d h y → (cs : Vars) → Aligned rs cs → T d cs → (c : Types) → Gives h h c cs → HasFuns w y (binds_tree k rs) c)
    → GroupBinds g rs T bs → GroupTyped w x f (binds_tree k rs) bs
group_typed kinds w k g f x pl rs bs s T each r =
    record {
      own = schemes n f bs;
      has = λ q u i o. let m = scheme_use n f bs q u o in
          (types (chosen n f m.0), assoc_inst (meant (chosen n f m.0) (chosen n f m.0)) (new_vars n) bs q ∙ m.1, at (chosen n f m.0) (place_change w k g f (chosen n f m.0) x (same_chosen (env_bound g) n f m.0 (mid r.1.0 (env_bound g) (vars_bound bs))) pl));
      serve = schemes_serve n f bs (last r.1.0 (env_bound g) (vars_bound bs)) r.2;
      bound = group_names k rs bs al;
      small = group_small kinds rs bs s al;
    }
  where
    n : ℕ
    n = r.1.0 + (env_bound g + vars_bound bs)

    above : (i j l : ℕ) → i ≤ i + l + j
    above i j l = omega arith

    mid : (i j l : ℕ) → j ≤ i + (j + l)
    mid i j l = omega arith

    last : (i j l : ℕ) → l ≤ i + (j + l)
    last i j l = omega arith

    al : Aligned rs bs
    al = named_aligned kinds g rs bs s r.0

    cs : Vars
    cs = inst_vars (new_vars n) bs

    w0 : T (put_vars cs g) cs
    w0 = subst (λ v. T (put_vars v g) v) (group_inst (new_vars n) rs bs al) (r.1.1 (λ j. n + j) (new_injective n) (λ i. above r.1.0 i (env_bound g + vars_bound bs)))

    diff : Differ cs
    diff = inst_differ (new_vars n) bs r.2

    types : (ℕ → run.Ty) → Types
    types h = assoc (meant h h) cs

    at : (h : ℕ → run.Ty) → Place w k g h x → HasFuns w (join (names (binds_tree k rs)) (monos (types h)) x) (binds_tree k rs) (types h)
    at h pl1 =
        each (put_vars cs g) h (join (names (binds_tree k rs)) (monos (types h)) x)
        (place_put w k g h x (monos (types h)) cs (names (binds_tree k rs)) pl1 (λ q. group_names k rs bs al q ∙ sym (inst_bound (new_vars n) bs q)) (inst_small (new_vars n) bs (group_small kinds rs bs s al)) (mono_serve h h cs (inst_vars_closed (new_vars n) (λ i. tt) bs) diff))
        cs (aligned_inst (new_vars n) rs bs al) w0 (types h) (gives_own h h cs diff)
