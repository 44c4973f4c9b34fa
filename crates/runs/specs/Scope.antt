-- The finished values at a place in a row of items.
use Rattle.std.specs.Prelude.{[], ◌∷◌}
use Rattle.runs.specs.Env.{Env, close_funs, empty, found_env, group, hide, kept_env, names, over, put, under}
use Rattle.runs.specs.Names.{Name, Part}
use Rattle.runs.specs.Primitives.{St, body, next_name}
use Rattle.runs.specs.Tree.{Functor, Funs, Held, Hold, Items}

-- the finished values that can be read at a place, and those of the structure that is being made there
pub record Scope : Type 0 where
  pub env : Env
  pub own : Env

-- before a text
abbrev pub no_scope : Scope
no_scope = record { env = empty; own = empty }

-- with the values of variables
abbrev pub with_vars : Env → Scope → Scope
with_vars bs c = record { env = over bs c.env; own = over bs c.own }

-- with the functions of a group
abbrev pub with_funs : Funs → Scope → Scope
with_funs fs c = with_vars (group (close_funs (hide (names fs) c.env) fs)) c

-- with the name of a new exception
abbrev pub with_exn : Name → St → Scope → Scope
with_exn x s c = record { env = put x (next_name s) c.env; own = put x (next_name s) c.own }

-- with the values of a structure, under the paths that begin with its part
abbrev pub with_struct : Part → Env → Scope → Scope
with_struct p b c = record { env = under p b c.env; own = under p b c.own }

-- with a functor, which reads what can be read here
abbrev pub with_functor : Part → Part → Items → Scope → Scope
with_functor f x body c = with_struct f (put ([] ∷ []) (Functor (kept_env c.env) x body) empty) c

-- at the beginning of a structure that stands here
abbrev pub inside : Scope → Scope
inside c = record { env = c.env; own = empty }

-- a scope, as a place on its way holds it, and the other way round
abbrev pub held : Scope → Held
held c = Hold (kept_env c.env) (kept_env c.own)

abbrev pub scope_of : Held → Scope
scope_of (Hold e o) = record { env = found_env e; own = found_env o }
