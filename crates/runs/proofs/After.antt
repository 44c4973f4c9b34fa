-- Rows one after another.
use Rattle.std.proofs.Common.{◌≡◌, Option, Some, None, refl, ap}
use Rattle.runs.specs.Env.{Env, close_pat, fields, functor_at, within}
use Rattle.runs.specs.Items.{after}
use Rattle.runs.specs.Meaning.{Done, Go, More, Raised, Res, Wrong, applied, ev, ev_items, fallen, or_next, then_do}
use Rattle.runs.specs.Ordered.{OrderedItems}
use Rattle.runs.specs.Patterns.{matched}
use Rattle.runs.specs.Primitives.{St, body, drawn}
use Rattle.runs.specs.Scope.{Scope, inside, with_exn, with_functor, with_funs, with_struct, with_vars}
use Rattle.runs.specs.Tree.{Alias, Applied, End, Exception, Fall, Functions, FunctorOf, Items, Raises, Struct, Stuck, Value}

fallen_then : (f : Fall) (s : St) (k : Scope → St → Res Scope) → fallen f s ≡ then_do (fallen f s) k
fallen_then Stuck s k = refl
fallen_then (Raises v) s k = refl

next_then : (o : Option Env) (f g : Env → Res Scope) (k : Scope → St → Res Scope) (l : Fall) (s : St) → ((bs : Env) → f bs ≡ then_do (g bs) k) → or_next o f (fallen l s) ≡ then_do (or_next o g (fallen l s)) k
next_then None f g k l s h = fallen_then l s k
next_then (Some bs) f g k l s h = h bs

then_then : {A : Type 0} (r : Res A) (f g : A → St → Res Scope) (k : Scope → St → Res Scope) → ((v : A) (s : St) → f v s ≡ then_do (g v s) k) → then_do r f ≡ then_do (then_do r g) k
then_then (Done v s) f g k h = h v s
then_then (Raised v s) f g k h = refl
then_then (More s) f g k h = refl
then_then (Wrong s) f g k h = refl

-- the second row is evaluated in the scope that the first one leaves
pub ev_after : (go : Go) (is js : Items) (c : Scope) (s : St) → ev_items go c (after is js) s ≡ then_do (ev_items go c is s) (λ c1 s1. ev_items go c1 js s1)
ev_after go End js c s = refl
ev_after go (Value f p a is) js c s =
    then_then (ev go c.env a s) (λ v s1. or_next (matched s1.mem (close_pat c.env p) v) (λ bs. ev_items go (with_vars bs c) (after is js) s1) (fallen f s1)) (λ v s1. or_next (matched s1.mem (close_pat c.env p) v) (λ bs. ev_items go (with_vars bs c) is s1) (fallen f s1)) (λ c1 s1. ev_items go c1 js s1)
    (λ v s1. next_then (matched s1.mem (close_pat c.env p) v) (λ bs. ev_items go (with_vars bs c) (after is js) s1) (λ bs. ev_items go (with_vars bs c) is s1) (λ c1 s2. ev_items go c1 js s2) f s1 (λ bs. ev_after go is js (with_vars bs c) s1))
ev_after go (Functions fs is) js c s = ev_after go is js (with_funs fs c) s
ev_after go (Exception x is) js c s = ev_after go is js (with_exn x s c) (drawn x s)
ev_after go (Alias p x is) js c s = ev_after go is js (with_struct p (within x c.env) c) s
ev_after go (FunctorOf f x body is) js c s = ev_after go is js (with_functor f x body c) s
ev_after go (Applied p f a is) js c s =
    then_then (applied go (c.env (functor_at f)) (within a c.env) s) (λ v s1. ev_items go (with_struct p (fields v) c) (after is js) s1) (λ v s1. ev_items go (with_struct p (fields v) c) is s1) (λ c1 s1. ev_items go c1 js s1)
    (λ v s1. ev_after go is js (with_struct p (fields v) c) s1)
ev_after go (Struct p body is) js c s =
    then_then (ev_items go (inside c) body s) (λ e s1. ev_items go (with_struct p e.own c) (after is js) s1) (λ e s1. ev_items go (with_struct p e.own c) is s1) (λ c1 s1. ev_items go c1 js s1)
    (λ e s1. ev_after go is js (with_struct p e.own c) s1)

pub ordered_after : (is js : Items) → OrderedItems is → OrderedItems js → OrderedItems (after is js)
ordered_after End js h k = k
ordered_after (Value f p a is) js h k = (h.0, h.1, ordered_after is js h.2 k)
ordered_after (Functions fs is) js h k = (h.0, ordered_after is js h.1 k)
ordered_after (Exception x is) js h k = ordered_after is js h k
ordered_after (Alias p x is) js h k = ordered_after is js h k
ordered_after (FunctorOf f x body is) js h k = (h.0, ordered_after is js h.1 k)
ordered_after (Applied p f a is) js h k = ordered_after is js h k
ordered_after (Struct p body is) js h k = (h.0, ordered_after is js h.1 k)

pub after_after : (is js ks : Items) → after (after is js) ks ≡ after is (after js ks)
after_after End js ks = refl
after_after (Value f p a is) js ks = ap (Value f p a) (after_after is js ks)
after_after (Functions fs is) js ks = ap (Functions fs) (after_after is js ks)
after_after (Exception x is) js ks = ap (Exception x) (after_after is js ks)
after_after (Alias p x is) js ks = ap (Alias p x) (after_after is js ks)
after_after (FunctorOf f x body is) js ks = ap (FunctorOf f x body) (after_after is js ks)
after_after (Applied p f a is) js ks = ap (Applied p f a) (after_after is js ks)
after_after (Struct p body is) js ks = ap (Struct p body) (after_after is js ks)
