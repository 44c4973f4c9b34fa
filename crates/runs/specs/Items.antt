-- The meaning of a row of items.
pub use Rattle.runs.specs.Scope.{Scope, no_scope, with_vars, with_funs, with_exn, with_struct, with_functor, inside, held, scope_of}
pub use Rattle.runs.specs.Meaning.{ev_items}
use Rattle.std.specs.Prelude.{ℕ, zero, suc}
use Rattle.runs.specs.Tree.{Items, End, Value, Functions, Exception, Alias, Struct, FunctorOf, Applied}
use Rattle.runs.specs.Primitives.{St}
use Rattle.runs.specs.Meaning.{Res, More, mean}

-- the meaning of a row where calls stand at most n - 1 deep in one another
abbrev pub mean_items : ℕ → Scope → Items → St → Res Scope
mean_items zero c is s = More s
mean_items (suc n) c is s = ev_items (mean n) c is s

-- one row after another
abbrev pub after : Items → Items → Items
after End js = js
after (Value f p a is) js = Value f p a (after is js)
after (Functions fs is) js = Functions fs (after is js)
after (Exception x is) js = Exception x (after is js)
after (Alias p x is) js = Alias p x (after is js)
after (Struct p body is) js = Struct p body (after is js)
after (FunctorOf f x body is) js = FunctorOf f x body (after is js)
after (Applied p f a is) js = Applied p f a (after is js)
