-- Whole texts: any order, and one text after another.
use Rattle.std.proofs.Common.{◌≡◌, ℕ, List, refl, sym, ap, ◌∙◌, subst}
use Rattle.beh.specs.Agree.{GoesOn}
use Rattle.beh.specs.Behaviour as beh
use Rattle.oc_ast.specs.Plain.{Bytes, PItem, Let, LetRec, Types, Exn, ExnAs, Module, Sealed, Functor, PItems, NoItems, MoreItems, PMExp, MAt, Struct, Apply, MSeal}
use Rattle.oc_typing.specs.More.{after}
use Rattle.runs.specs.Tree as run
use Rattle.runs.specs.Tree.{Val}
use Rattle.runs.specs.Primitives.{St, start}
use Rattle.runs.specs.Forms.{text_scope}
use Rattle.runs.specs.Items as run_items
use Rattle.runs.specs.Scope.{Scope}
use Rattle.runs.specs.Meaning.{Done, Go, Raised, ev_items, then_do}
use Rattle.runs.specs.Seen.{exn_name, shown}
use Rattle.runs.proofs.Begin.{text_ordered}
use Rattle.runs.proofs.Both.{rows_agree}
use Rattle.runs.proofs.Ends.{done_agrees, raised_agrees}
use Rattle.runs.proofs.Grow.{rows_go_on}
use Rattle.runs.proofs.After.{ev_after}
use Rattle.oc_steps.specs.Known as known
use Rattle.oc_steps.specs.Known.{Known, item_knows, items_know, over}
use Rattle.oc_steps.specs.OcSteps.{Agrees, NeverWrong, Settles, evaluated, meaning, text_tree}
use Rattle.oc_steps.specs.Ordered.{Ordered}
use Rattle.oc_steps.specs.View.{item_tree, items_tree, mod_tree}
use Rattle.oc_steps.proofs.Viewed.{items_ordered}

pub text_agrees : (text : PItems) → Ordered text → NeverWrong text → Agrees (meaning text) text
text_agrees text o w = rows_agree text_scope (text_tree text) start text_ordered (items_ordered known.at_first text o) tt w

pub text_goes_on : (text : PItems) → GoesOn (meaning text)
text_goes_on text = rows_go_on text_scope (text_tree text) start

pub text_ends : (text : PItems) (n : ℕ) (d : Scope) (t : St) → Ordered text → evaluated text n ≡ Done d t → Agrees (λ m. shown t beh.Ended) text
text_ends text n d t o e = done_agrees text_scope d (text_tree text) start t n text_ordered (items_ordered known.at_first text o) tt e

pub text_raises : (text : PItems) (n : ℕ) (v : Val) (t : St) → Ordered text → evaluated text n ≡ Raised v t → Agrees (λ m. shown t (beh.Raised (exn_name t.exns v))) text
text_raises text n v t o e = raised_agrees text_scope (text_tree text) start v t n text_ordered (items_ordered known.at_first text o) tt e

-- the same by what is seen
pub text_settles : (text : PItems) (n : ℕ) (d : Scope) (t : St) (out : List ℕ) → Ordered text → evaluated text n ≡ Done d t → t.out ≡ out → Settles text out beh.Ended
text_settles text n d t out o e q = subst (λ l. Settles text l beh.Ended) q (text_ends text n d t o e)

pub text_fails : (text : PItems) (n : ℕ) (v : Val) (t : St) (out name : List ℕ) → Ordered text → evaluated text n ≡ Raised v t → t.out ≡ out → exn_name t.exns v ≡ name → Settles text out (beh.Raised name)
text_fails text n v t out name o e q r = subst (λ l. Settles text l (beh.Raised name)) q (subst (λ m. Settles text t.out (beh.Raised m)) r (text_raises text n v t o e))

-- ---- one text after another

over-over : (a b k : Known) → over (over a b) k ≡ over a (over b k)
over-over known.Nobody b k = refl
over-over (known.Builds x a) b k = ap (known.Builds x) (over-over a b k)
over-over (known.Raises x a) b k = ap (known.Raises x) (over-over a b k)
over-over (known.Holds x c a) b k = ap (known.Holds x c) (over-over a b k)

mod_after : (k : Known) (m : Bytes) (o : PMExp) (is js : run.Items) → mod_tree k m o (run_items.after is js) ≡ run_items.after (mod_tree k m o is) js
mod_after k m (MAt q) is js = refl
mod_after k m (Struct body) is js = refl
mod_after k m (Apply f a) is js = refl
mod_after k m (MSeal o s) is js = refl

item_after : (k : Known) (i : PItem) (is js : run.Items) → item_tree k i (run_items.after is js) ≡ run_items.after (item_tree k i is) js
item_after k (Let p e) is js = refl
item_after k (LetRec rs) is js = refl
item_after k (Types ds) is js = refl
item_after k (Exn n w) is js = refl
item_after k (ExnAs n q) is js = refl
item_after k (Module m o) is js = mod_after k m o is js
item_after k (Sealed m s o) is js = refl
item_after k (Functor f x s o) is js = refl

pub tree_after : (k : Known) (is js : PItems) → items_tree k (after is js) ≡ run_items.after (items_tree k is) (items_tree (over (items_know k is) k) js)
tree_after k NoItems js = refl
tree_after k (MoreItems i is) js =
    let h : Known = over (item_knows k i) k in
    ap (item_tree k i) (tree_after h is js)
    ∙ (item_after k i (items_tree h is) (items_tree (over (items_know h is) h) js)
    ∙ ap (λ e. run_items.after (item_tree k i (items_tree h is)) (items_tree e js)) (sym (over-over (items_know h is) (item_knows k i) k)))

pub evaluated_after : (go : Go) (k : Known) (is js : PItems) (c : Scope) (s : St) → ev_items go c (items_tree k (after is js)) s ≡ then_do (ev_items go c (items_tree k is) s) (λ d t. ev_items go d (items_tree (over (items_know k is) k) js) t)
evaluated_after go k is js c s = ap (λ e. ev_items go c e s) (tree_after k is js) ∙ ev_after go (items_tree k is) (items_tree (over (items_know k is) k) js) c s

pub ordered_after : (is js : PItems) → Ordered is → Ordered js → Ordered (after is js)
ordered_after NoItems js h k = k
ordered_after (MoreItems i is) js h k = (h.0, ordered_after is js h.1 k)
