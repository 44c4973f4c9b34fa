-- A larger n goes on from a smaller one.
use Rattle.std.proofs.Common.{◌≡◌, ℕ, zero, suc, ◌+◌, Option, Some, None, refl, sym, ap, subst, arith}
use Rattle.beh.proofs.Matching.{begins_same, begins_trans, extends_equal}
use Rattle.beh.specs.Agree.{GoesOn}
use Rattle.beh.specs.Behaviour.{Begins, Extends}
use Rattle.runs.proofs.Runs.{Kept, act_kept}
use Rattle.runs.specs.Env.{Env, close_funs, close_pat, empty, fields, found_env, functor_at, group, hide, kept_env, names, nothing, over, put, under, within}
use Rattle.runs.specs.Items.{mean_items}
use Rattle.runs.specs.Meaning.{Done, Go, More, Raised, Res, Wrong, applied, ev, ev_all, ev_items, ev_rules, fallen, known, mean, or_next, or_rescue, perform, then_do}
use Rattle.runs.specs.Patterns.{matched}
use Rattle.runs.specs.Primitives.{Calls, Gives, Next, St, Throws, act, body, drawn, next_name}
use Rattle.runs.specs.Scope.{Scope, inside, with_exn, with_functor, with_funs, with_struct, with_vars}
use Rattle.runs.specs.Seen.{behaviour}
use Rattle.runs.specs.Tree.{Alias, Applied, Case, Cons, End, Exception, Exp, Exps, Fail, Fall, Fn, Functions, Functor, FunctorOf, Group, InMod, InStruct, Is, Items, LetMod, Lit, Module, NewExn, Nil, Node, Raises, Rule, Rules, Stop, Struct, StructOf, Stuck, Try, Val, Value, Var}

-- what was written before comes first
abbrev pub Grows : {A : Type 0} → Res A → St → Type 0
Grows (Done a s1) s = Begins s1.out s.out
Grows (Raised v s1) s = Begins s1.out s.out
Grows (More s1) s = Begins s1.out s.out
Grows (Wrong s1) s = Begins s1.out s.out

-- r goes on from q
abbrev pub Up : {A : Type 0} → Res A → Res A → Type 0
Up (Done a s) r = r ≡ Done a s
Up (Raised v s) r = r ≡ Raised v s
Up (More s) r = Grows r s
Up (Wrong s) r = r ≡ Wrong s

up_same : {A : Type 0} (r : Res A) → Up r r
up_same (Done a s) = refl
up_same (Raised v s) = refl
up_same (More s) = begins_same s.out
up_same (Wrong s) = refl

grows_from : {A : Type 0} (r : Res A) (s s1 : St) → Begins s1.out s.out → Grows r s1 → Grows r s
grows_from (Done a s2) s s1 b g = begins_trans s2.out s1.out s.out g b
grows_from (Raised v s2) s s1 b g = begins_trans s2.out s1.out s.out g b
grows_from (More s2) s s1 b g = begins_trans s2.out s1.out s.out g b
grows_from (Wrong s2) s s1 b g = begins_trans s2.out s1.out s.out g b

then_grows : {A B : Type 0} (r : Res A) (g : A → St → Res B) (s : St) → Grows r s → ((a : A) (s1 : St) → Grows (g a s1) s1) → Grows (then_do r g) s
then_grows (Done a s1) g s h k = grows_from (g a s1) s s1 h (k a s1)
then_grows (Raised v s1) g s h k = h
then_grows (More s1) g s h k = h
then_grows (Wrong s1) g s h k = h

then_up : {A B : Type 0} (q r : Res A) (f g : A → St → Res B) → Up q r → ((a : A) (s : St) → Up (f a s) (g a s)) → ((a : A) (s : St) → Grows (g a s) s) → Up (then_do q f) (then_do r g)
then_up (Done a s) r f g h u k = subst (λ x. Up (f a s) (then_do x g)) (sym h) (u a s)
then_up (Raised v s) r f g h u k = ap (λ x. then_do x g) h
then_up (More s) r f g h u k = then_grows r g s h k
then_up (Wrong s) r f g h u k = ap (λ x. then_do x g) h

or_grows : (r : Res Val) (g : Val → St → Res Val) (s : St) → Grows r s → ((a : Val) (s1 : St) → Grows (g a s1) s1) → Grows (or_rescue r g) s
or_grows (Done a s1) g s h k = h
or_grows (Raised v s1) g s h k = grows_from (g v s1) s s1 h (k v s1)
or_grows (More s1) g s h k = h
or_grows (Wrong s1) g s h k = h

or_up : (q r : Res Val) (f g : Val → St → Res Val) → Up q r → ((a : Val) (s : St) → Up (f a s) (g a s)) → ((a : Val) (s : St) → Grows (g a s) s) → Up (or_rescue q f) (or_rescue r g)
or_up (Done v s) r f g h u k = ap (λ x. or_rescue x g) h
or_up (Raised v s) r f g h u k = subst (λ x. Up (f v s) (or_rescue x g)) (sym h) (u v s)
or_up (More s) r f g h u k = or_grows r g s h k
or_up (Wrong s) r f g h u k = ap (λ x. or_rescue x g) h

known_grows : (o : Option Val) (s : St) → Grows (known o s) s
known_grows None s = begins_same s.out
known_grows (Some v) s = begins_same s.out

fallen_grows : (A : Type 0) (f : Fall) (s : St) → Grows (fallen {A = A} f s) s
fallen_grows A Stuck s = begins_same s.out
fallen_grows A (Raises v) s = begins_same s.out

next_grows : {A : Type 0} (o : Option Env) (g : Env → Res A) (r : Res A) (s : St) → ((bs : Env) → Grows (g bs) s) → Grows r s → Grows (or_next o g r) s
next_grows None g r s h k = k
next_grows (Some bs) g r s h k = h bs

next_up : {A : Type 0} (o : Option Env) (f g : Env → Res A) (q r : Res A) → ((bs : Env) → Up (f bs) (g bs)) → Up q r → Up (or_next o f q) (or_next o g r)
next_up None f g q r h k = k
next_up (Some bs) f g q r h k = h bs

abbrev pub Growing : Go → Type 0
Growing go = (a : Env) (e : Exp) (s : St) → Grows (go a e s) s

perform_grows : (go : Go) (o : Option Next) (s : St) → Growing go → Kept o s → Grows (perform go o s) s
perform_grows go None s h k = begins_same s.out
perform_grows go (Some (Gives v s1)) s h k = k
perform_grows go (Some (Throws v s1)) s h k = k
perform_grows go (Some (Calls a e s1)) s h k = grows_from (go a e s1) s s1 k (h a e s1)

perform_up : (f g : Go) (o : Option Next) (s : St) → ((a : Env) (e : Exp) (s1 : St) → Up (f a e s1) (g a e s1)) → Up (perform f o s) (perform g o s)
perform_up f g None s h = refl
perform_up f g (Some (Gives v s1)) s h = refl
perform_up f g (Some (Throws v s1)) s h = refl
perform_up f g (Some (Calls a e s1)) s h = h a e s1

applied_grows : (go : Go) → Growing go → (o : Option Val) (b : Env) (s : St) → Grows (applied go o b s) s
applied_grows go h None b s = begins_same s.out
applied_grows go h (Some (Functor e x body)) b s = h (under x b (found_env e)) (StructOf nothing body) s
applied_grows go h (Some v) b s = begins_same s.out

applied_up : (f g : Go) → ((a : Env) (e : Exp) (s : St) → Up (f a e s) (g a e s)) → (o : Option Val) (b : Env) (s : St) → Up (applied f o b s) (applied g o b s)
applied_up f g u None b s = refl
applied_up f g u (Some (Functor e x body)) b s = u (under x b (found_env e)) (StructOf nothing body) s
applied_up f g u (Some v) b s = refl

mutual
  pub ev_grows : (go : Go) → Growing go → (e : Exp) (a : Env) (s : St) → Grows (ev go a e s) s
  ev_grows go h (Is v) a s = begins_same s.out
  ev_grows go h (Fail v) a s = begins_same s.out
  ev_grows go h (Lit n) a s = begins_same s.out
  ev_grows go h (Var x) a s = known_grows (a x) s
  ev_grows go h (Fn f rs) a s = begins_same s.out
  ev_grows go h (Group fs b) a s = ev_grows go h b (over (group (close_funs (hide (names fs) a) fs)) a) s
  ev_grows go h (Node op es) a s = then_grows (ev_all go a es s) (λ vs s1. perform go (act op vs s1) s1) s (all_grows go h es a s) (λ vs s1. perform_grows go (act op vs s1) s1 h (act_kept op vs s1))
  ev_grows go h (Case f d rs) a s = then_grows (ev go a d s) (λ v s1. ev_rules go a rs (fallen f s1) v s1) s (ev_grows go h d a s) (λ v s1. rules_grows go h rs a (fallen f s1) v s1 (fallen_grows _ f s1))
  ev_grows go h (NewExn x b) a s = grows_from (ev go (put x (next_name s) a) b (drawn x s)) s (drawn x s) (begins_same s.out) (ev_grows go h b (put x (next_name s) a) (drawn x s))
  ev_grows go h (LetMod e p is b) a s =
      then_grows (ev_items go (record { env = over (found_env e) a; own = empty }) is s) (λ (c : Scope) s1. ev go (under p c.own a) b s1) s (items_grows go h is (record { env = over (found_env e) a; own = empty }) s)
      (λ c s1. ev_grows go h b (under p c.own a) s1)
  ev_grows go h (InMod p w b) a s = begins_same s.out
  ev_grows go h (StructOf e is) a s =
      then_grows (ev_items go (record { env = over (found_env e) a; own = empty }) is s) (λ (c : Scope) s1. Done (Module (kept_env c.own)) s1) s (items_grows go h is (record { env = over (found_env e) a; own = empty }) s)
      (λ c s1. begins_same s1.out)
  ev_grows go h (InStruct w) a s = begins_same s.out
  ev_grows go h (Try d rs) a s = or_grows (ev go a d s) (λ v s1. ev_rules go a rs (Raised v s1) v s1) s (ev_grows go h d a s) (λ v s1. rules_grows go h rs a (Raised v s1) v s1 (begins_same s1.out))

  pub all_grows : (go : Go) → Growing go → (es : Exps) (a : Env) (s : St) → Grows (ev_all go a es s) s
  all_grows go h Nil a s = begins_same s.out
  all_grows go h (Cons e es) a s = then_grows (ev go a e s) _ s (ev_grows go h e a s) (λ v s1. then_grows (ev_all go a es s1) _ s1 (all_grows go h es a s1) (λ vs s2. begins_same s2.out))

  rules_grows : (go : Go) → Growing go → (rs : Rules) (a : Env) (r : Res Val) (v : Val) (s : St) → Grows r s → Grows (ev_rules go a rs r v s) s
  rules_grows go h Stop a r v s k = k
  rules_grows go h (Rule p b rs) a r v s k =
      next_grows (matched s.mem (close_pat a p) v) (λ bs. ev go (over bs a) b s) (ev_rules go a rs r v s) s (λ bs. ev_grows go h b (over bs a) s) (rules_grows go h rs a r v s k)

  pub items_grows : (go : Go) → Growing go → (is : Items) (c : Scope) (s : St) → Grows (ev_items go c is s) s
  items_grows go h End c s = begins_same s.out
  items_grows go h (Value f p a is) c s =
      then_grows (ev go c.env a s) (λ v s1. or_next (matched s1.mem (close_pat c.env p) v) (λ bs. ev_items go (with_vars bs c) is s1) (fallen f s1)) s (ev_grows go h a c.env s)
      (λ v s1. next_grows (matched s1.mem (close_pat c.env p) v) (λ bs. ev_items go (with_vars bs c) is s1) (fallen f s1) s1 (λ bs. items_grows go h is (with_vars bs c) s1) (fallen_grows _ f s1))
  items_grows go h (Functions fs is) c s = items_grows go h is (with_funs fs c) s
  items_grows go h (Exception x is) c s = grows_from (ev_items go (with_exn x s c) is (drawn x s)) s (drawn x s) (begins_same s.out) (items_grows go h is (with_exn x s c) (drawn x s))
  items_grows go h (Alias p x is) c s = items_grows go h is (with_struct p (within x c.env) c) s
  items_grows go h (FunctorOf f x body is) c s = items_grows go h is (with_functor f x body c) s
  items_grows go h (Applied p f a is) c s =
      then_grows (applied go (c.env (functor_at f)) (within a c.env) s) (λ v s1. ev_items go (with_struct p (fields v) c) is s1) s (applied_grows go h (c.env (functor_at f)) (within a c.env) s)
      (λ v s1. items_grows go h is (with_struct p (fields v) c) s1)
  items_grows go h (Struct p body is) c s =
      then_grows (ev_items go (inside c) body s) (λ e s1. ev_items go (with_struct p e.own c) is s1) s (items_grows go h body (inside c) s) (λ e s1. items_grows go h is (with_struct p e.own c) s1)

mutual
  pub ev_up : (f g : Go) → ((a : Env) (e : Exp) (s : St) → Up (f a e s) (g a e s)) → Growing g → (e : Exp) (a : Env) (s : St) → Up (ev f a e s) (ev g a e s)
  ev_up f g u h (Is v) a s = refl
  ev_up f g u h (Fail v) a s = refl
  ev_up f g u h (Lit n) a s = refl
  ev_up f g u h (Var x) a s = up_same (known (a x) s)
  ev_up f g u h (Fn k rs) a s = refl
  ev_up f g u h (Group fs b) a s = ev_up f g u h b (over (group (close_funs (hide (names fs) a) fs)) a) s
  ev_up f g u h (Node op es) a s = then_up (ev_all f a es s) (ev_all g a es s) _ _ (all_up f g u h es a s) (λ vs s1. perform_up f g (act op vs s1) s1 u) (λ vs s1. perform_grows g (act op vs s1) s1 h (act_kept op vs s1))
  ev_up f g u h (Case k d rs) a s =
      then_up (ev f a d s) (ev g a d s) (λ v s1. ev_rules f a rs (fallen k s1) v s1) (λ v s1. ev_rules g a rs (fallen k s1) v s1) (ev_up f g u h d a s)
      (λ v s1. rules_up f g u h rs a (fallen k s1) v s1) (λ v s1. rules_grows g h rs a (fallen k s1) v s1 (fallen_grows _ k s1))
  ev_up f g u h (NewExn x b) a s = ev_up f g u h b (put x (next_name s) a) (drawn x s)
  ev_up f g u h (LetMod e p is b) a s =
      let c0 : Scope = record { env = over (found_env e) a; own = empty } in
      then_up (ev_items f c0 is s) (ev_items g c0 is s) (λ (c : Scope) s1. ev f (under p c.own a) b s1) (λ (c : Scope) s1. ev g (under p c.own a) b s1) (items_up f g u h is c0 s)
      (λ c s1. ev_up f g u h b (under p c.own a) s1) (λ c s1. ev_grows g h b (under p c.own a) s1)
  ev_up f g u h (InMod p w b) a s = refl
  ev_up f g u h (StructOf e is) a s =
      let c0 : Scope = record { env = over (found_env e) a; own = empty } in
      then_up (ev_items f c0 is s) (ev_items g c0 is s) (λ (c : Scope) s1. Done (Module (kept_env c.own)) s1) (λ (c : Scope) s1. Done (Module (kept_env c.own)) s1) (items_up f g u h is c0 s) (λ c s1. refl) (λ c s1. begins_same s1.out)
  ev_up f g u h (InStruct w) a s = refl
  ev_up f g u h (Try d rs) a s =
      or_up (ev f a d s) (ev g a d s) (λ v s1. ev_rules f a rs (Raised v s1) v s1) (λ v s1. ev_rules g a rs (Raised v s1) v s1) (ev_up f g u h d a s)
      (λ v s1. rules_up f g u h rs a (Raised v s1) v s1) (λ v s1. rules_grows g h rs a (Raised v s1) v s1 (begins_same s1.out))

  pub all_up : (f g : Go) → ((a : Env) (e : Exp) (s : St) → Up (f a e s) (g a e s)) → Growing g → (es : Exps) (a : Env) (s : St) → Up (ev_all f a es s) (ev_all g a es s)
  all_up f g u h Nil a s = refl
  all_up f g u h (Cons e es) a s =
      then_up (ev f a e s) (ev g a e s) _ _ (ev_up f g u h e a s)
      (λ v s1. then_up (ev_all f a es s1) (ev_all g a es s1) _ _ (all_up f g u h es a s1) (λ vs s2. refl) (λ vs s2. begins_same s2.out))
      (λ v s1. then_grows (ev_all g a es s1) _ s1 (all_grows g h es a s1) (λ vs s2. begins_same s2.out))

  rules_up : (f g : Go) → ((a : Env) (e : Exp) (s : St) → Up (f a e s) (g a e s)) → Growing g → (rs : Rules) (a : Env) (r : Res Val) (v : Val) (s : St) → Up (ev_rules f a rs r v s) (ev_rules g a rs r v s)
  rules_up f g u h Stop a r v s = up_same r
  rules_up f g u h (Rule p b rs) a r v s =
      next_up (matched s.mem (close_pat a p) v) (λ bs. ev f (over bs a) b s) (λ bs. ev g (over bs a) b s) (ev_rules f a rs r v s) (ev_rules g a rs r v s)
      (λ bs. ev_up f g u h b (over bs a) s) (rules_up f g u h rs a r v s)

  pub items_up : (f g : Go) → ((a : Env) (e : Exp) (s : St) → Up (f a e s) (g a e s)) → Growing g → (is : Items) (c : Scope) (s : St) → Up (ev_items f c is s) (ev_items g c is s)
  items_up f g u h End c s = refl
  items_up f g u h (Value k p a is) c s =
      then_up (ev f c.env a s) (ev g c.env a s) (λ v s1. or_next (matched s1.mem (close_pat c.env p) v) (λ bs. ev_items f (with_vars bs c) is s1) (fallen k s1)) (λ v s1. or_next (matched s1.mem (close_pat c.env p) v) (λ bs. ev_items g (with_vars bs c) is s1) (fallen k s1)) (ev_up f g u h a c.env s)
      (λ v s1. next_up (matched s1.mem (close_pat c.env p) v) (λ bs. ev_items f (with_vars bs c) is s1) (λ bs. ev_items g (with_vars bs c) is s1) (fallen k s1) (fallen k s1) (λ bs. items_up f g u h is (with_vars bs c) s1) (up_same (fallen k s1)))
      (λ v s1. next_grows (matched s1.mem (close_pat c.env p) v) (λ bs. ev_items g (with_vars bs c) is s1) (fallen k s1) s1 (λ bs. items_grows g h is (with_vars bs c) s1) (fallen_grows _ k s1))
  items_up f g u h (Functions fs is) c s = items_up f g u h is (with_funs fs c) s
  items_up f g u h (Exception x is) c s = items_up f g u h is (with_exn x s c) (drawn x s)
  items_up f g u h (Alias p x is) c s = items_up f g u h is (with_struct p (within x c.env) c) s
  items_up f g u h (FunctorOf k x body is) c s = items_up f g u h is (with_functor k x body c) s
  items_up f g u h (Applied p k a is) c s =
      then_up (applied f (c.env (functor_at k)) (within a c.env) s) (applied g (c.env (functor_at k)) (within a c.env) s) (λ v s1. ev_items f (with_struct p (fields v) c) is s1) (λ v s1. ev_items g (with_struct p (fields v) c) is s1) (applied_up f g u (c.env (functor_at k)) (within a c.env) s)
      (λ v s1. items_up f g u h is (with_struct p (fields v) c) s1) (λ v s1. items_grows g h is (with_struct p (fields v) c) s1)
  items_up f g u h (Struct p body is) c s =
      then_up (ev_items f (inside c) body s) (ev_items g (inside c) body s) (λ e s1. ev_items f (with_struct p e.own c) is s1) (λ e s1. ev_items g (with_struct p e.own c) is s1) (items_up f g u h body (inside c) s)
      (λ e s1. items_up f g u h is (with_struct p e.own c) s1) (λ e s1. items_grows g h is (with_struct p e.own c) s1)

pub mean_grows : (n : ℕ) → Growing (mean n)
mean_grows zero a e s = begins_same s.out
mean_grows (suc n) a e s = ev_grows (mean n) (mean_grows n) e a s

-- one more
pub mean_up : (n : ℕ) (a : Env) (e : Exp) (s : St) → Up (mean n a e s) (mean (suc n) a e s)
mean_up zero a e s = mean_grows 1 a e s
mean_up (suc n) a e s = ev_up (mean n) (mean (suc n)) (mean_up n) (mean_grows (suc n)) e a s

pub rows_up : (n : ℕ) (c : Scope) (is : Items) (s : St) → Up (mean_items n c is s) (mean_items (suc n) c is s)
rows_up zero c is s = items_grows (mean 0) (mean_grows 0) is c s
rows_up (suc n) c is s = items_up (mean n) (mean (suc n)) (mean_up n) (mean_grows (suc n)) is c s

pub up_extends : {A : Type 0} (q r : Res A) → Up q r → Extends (behaviour r) (behaviour q)
up_extends (Done v s) r h = extends_equal (behaviour (Done v s)) (behaviour r) (ap behaviour h)
up_extends {A = A} (Raised v s) r h = extends_equal (behaviour {A = A} (Raised v s)) (behaviour r) (ap behaviour h)
up_extends {A = A} (Wrong s) r h = extends_equal (behaviour {A = A} (Wrong s)) (behaviour r) (ap behaviour h)
up_extends (More s) (Done v s1) h = record { begins = h; over = λ o. absurd o }
up_extends (More s) (Raised v s1) h = record { begins = h; over = λ o. absurd o }
up_extends (More s) (More s1) h = record { begins = h; over = λ o. absurd o }
up_extends (More s) (Wrong s1) h = record { begins = h; over = λ o. absurd o }

-- an end that is reached stays
pub rows_end : (n k : ℕ) (c c1 : Scope) (is : Items) (s s1 : St) → mean_items n c is s ≡ Done c1 s1 → mean_items (k + n) c is s ≡ Done c1 s1
rows_end n zero c c1 is s s1 h =
    let e : n ≡ zero + n = omega arith in
    subst (λ i. mean_items i c is s ≡ Done c1 s1) e h
rows_end n (suc k) c c1 is s s1 h =
    let i = rows_end n k c c1 is s s1 h in
    let e : suc (k + n) ≡ suc k + n = omega arith in
    subst (λ j. mean_items j c is s ≡ Done c1 s1) e (subst (λ q. Up q (mean_items (suc (k + n)) c is s)) i (rows_up (k + n) c is s))

pub mean_goes_on : (a : Env) (e : Exp) (s : St) → GoesOn (λ n. behaviour (mean n a e s))
mean_goes_on a e s = λ n. up_extends (mean n a e s) (mean (suc n) a e s) (mean_up n a e s)

pub rows_go_on : (c : Scope) (is : Items) (s : St) → GoesOn (λ n. behaviour (mean_items n c is s))
rows_go_on c is s = λ n. up_extends (mean_items n c is s) (mean_items (suc n) c is s) (rows_up n c is s)
