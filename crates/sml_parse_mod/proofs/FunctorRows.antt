-- Rows of bindings of functors: the same row with what stands in the parentheses as the code has it.
use Rattle.std.proofs.Common.{◌≡◌, ℕ, zero, suc, Bool, true, false, if◌then◌else◌, List, [], ◌∷◌, length, Option, Ok, Err, refl, sym, ap, ◌∙◌}
use Rattle.readers.specs.declared.fault.ReadError.{ReadError}
use Rattle.readers.specs.Given.{Fails}
use Rattle.readers.specs.Reader.{first, head_is, Answer, Reader, ◌>>=◌, mapped, steps_by}
use Rattle.readers.proofs.Choice.{remade}
use Rattle.readers.proofs.StepLoop.{ended}
use Rattle.sml_lex.specs.declared.token.Token.{Token}
use Rattle.sml_ast.specs.declared.program.FunBind.{FunBind}
use Rattle.sml_grammar.specs.Types.{Ident}
use Rattle.sml_grammar_exp.specs.Decs.{Changes}
use Rattle.sml_grammar_mod.specs.Strs as grammar
use Rattle.sml_grammar_mod.specs.Strs.{Ax, Fb, St, funbind_of}
use Rattle.sml_grammar_mod.specs.ReadStrs.{Bind, Growing, Turn, begins_grow, grown_str, turn_read}
use Rattle.sml_parse_mod.specs.declared.functors.Param.{Param}
use Rattle.sml_parse_mod.specs.Levels as levels
use Rattle.sml_parse_mod.specs.Trees.{Turned, added, bind_front, front, funbind_made, funbinds}
use Rattle.sml_parse_mod.proofs.Going.{going}
use Rattle.sml_parse_mod.proofs.Scopes.{mapped_fails, other_gives}
use Rattle.sml_parse_mod.proofs.Steps.{functor_bind_less, functor_less}
use Rattle.sml_parse_mod.proofs.Turns as rows

-- the front as the grammar has it, and as the code does
abbrev Front : Type 0
Front = Ident × (grammar.Param × Option Ax)

abbrev Seen : Type 0
Seen = Ident × (Param × Option Ax)

made : (x : Front) (e : St) → funbind_of (x, e) ≡ funbind_made (front x, e)
made (f, (grammar.Param.Named z, a)) e = refl
made (f, (grammar.Param.Opened ss, a)) e = refl

abbrev turn_seen : Turn Front → Turn Seen
turn_seen (Turn.More u) = Turn.More u
turn_seen (Turn.Next y) = Turn.Next (bind_front y)

joined : {X U : Type 0} (step : X → U → X) (x : X) (u : U) (r : Answer Token (List U)) → ended step x (r >>= λ t. Ok (u ∷ t.0, t.1)) ≡ ended step (step x u) r
joined step x u (Ok y) = refl
joined step x u (Err e) = refl

module _ (cs : Changes) (h : ℕ) where
  abbrev bind : Reader Token (Bind Front)
  bind = levels.functor_bind cs h

  abbrev bind_seen : Reader Token (Bind Seen)
  bind_seen = levels.functor cs h

  turns_same : (x : Bind Front) (s : List Token) → turn_read bind_seen h (bind_front x) s ≡ mapped turn_seen (turn_read bind h x) s
  turns_same x s = rows.turn_parts bind_seen h (bind_front x) s ∙ (go (levels.turn h x.1 s) ∙ ap (remade turn_seen) (sym (rows.turn_parts bind h x s)))
    where
      next : (r : Answer Token (Bind Front)) → remade Turn.Next (remade bind_front r) ≡ remade turn_seen (remade Turn.Next r)
      next (Ok x) = refl
      next (Err e) = refl

      go : (r : Answer Token Turned) → going (rows.then_bind bind_seen h) r ≡ remade turn_seen (going (rows.then_bind bind h) r)
      go (Ok (Turned.More u, s)) = refl
      go (Ok (Turned.Next, s)) = next (bind s)
      go (Err e) = refl

  abbrev Kept : Type 0
  Kept = (List FunBind × ℕ) × Bind Front

  abbrev seen : Kept → (List FunBind × ℕ) × Bind Seen
  seen y = (y.0, bind_front y.1)

  abbrev keeping : Kept → Turn Front → Kept
  keeping = rows.keeping bind h funbind_of (functor_bind_less cs h)

  abbrev keeping_seen : (List FunBind × ℕ) × Bind Seen → Turn Seen → (List FunBind × ℕ) × Bind Seen
  keeping_seen = rows.keeping bind_seen h funbind_made (functor_less cs h)

  keeping_same : (y : Kept) (u : Turn Front) → keeping_seen (seen y) (turn_seen u) ≡ seen (keeping y u)
  keeping_same y (Turn.More u) = refl
  keeping_same y (Turn.Next x) = ap (λ (d : Fb). (added y.0 d, bind_front x)) (sym (made y.1.0 (grown_str y.1.1)))

  abbrev ends : Answer Token Kept → Answer Token (List FunBind × ℕ)
  ends = rows.finished bind h funbind_of (functor_bind_less cs h)

  abbrev ends_seen : Answer Token ((List FunBind × ℕ) × Bind Seen) → Answer Token (List FunBind × ℕ)
  ends_seen = rows.finished bind_seen h funbind_made (functor_less cs h)

  abbrev run : ℕ → Kept → List Token → Answer Token (List FunBind × ℕ)
  run n y s = ends (ended keeping y (steps_by begins_grow keeping (λ y. turn_read bind h y.1) n y s))

  abbrev run_seen : ℕ → (List FunBind × ℕ) × Bind Seen → List Token → Answer Token (List FunBind × ℕ)
  run_seen n y s = ends_seen (ended keeping_seen y (steps_by begins_grow keeping_seen (λ y. turn_read bind_seen h y.1) n y s))

  last_same : (y : Kept) (s : List Token) → ends (Ok (y, s)) ≡ ends_seen (Ok (seen y, s))
  last_same y s = ap (λ (d : Fb). Ok (added y.0 d, s)) (made y.1.0 (grown_str y.1.1))

  same : (n : ℕ) (y : Kept) (s : List Token) → run n y s ≡ run_seen n (seen y) s
  unfolding steps_by
  same zero y s = last_same y s
  same (suc n) y s = go (head_is begins_grow (first s)) (λ k t. same n k t)
    where
      more : Kept → Turn Front × List Token → Answer Token (List (Turn Front))
      more y z = steps_by begins_grow keeping (λ y. turn_read bind h y.1) n (keeping y z.0) z.1 >>= λ t. Ok (z.0 ∷ t.0, t.1)

      more_seen : (List FunBind × ℕ) × Bind Seen → Turn Seen × List Token → Answer Token (List (Turn Seen))
      more_seen y z = steps_by begins_grow keeping_seen (λ y. turn_read bind_seen h y.1) n (keeping_seen y z.0) z.1 >>= λ t. Ok (z.0 ∷ t.0, t.1)

      turn : (r : Answer Token (Turn Front)) → ((k : Kept) (t : List Token) → run n k t ≡ run_seen n (seen k) t) → ends (ended keeping y (r >>= more y)) ≡ ends_seen (ended keeping_seen (seen y) (remade turn_seen r >>= more_seen (seen y)))
      turn (Ok z) f =
          ap ends (joined keeping y z.0 (steps_by begins_grow keeping (λ y. turn_read bind h y.1) n (keeping y z.0) z.1))
          ∙ (f (keeping y z.0) z.1
          ∙ (ap (λ (k : (List FunBind × ℕ) × Bind Seen). run_seen n k z.1) (sym (keeping_same y z.0))
          ∙ ap ends_seen (sym (joined keeping_seen (seen y) (turn_seen z.0) (steps_by begins_grow keeping_seen (λ y. turn_read bind_seen h y.1) n (keeping_seen (seen y) (turn_seen z.0)) z.1)))))
      turn (Err e) f = refl

      nothing : Answer Token (List (Turn Front))
      nothing = Ok ([], s)

      nothing_seen : Answer Token (List (Turn Seen))
      nothing_seen = Ok ([], s)

      go : (b : Bool) → ((k : Kept) (t : List Token) → run n k t ≡ run_seen n (seen k) t) → ends (ended keeping y (if b then turn_read bind h y.1 s >>= more y else nothing)) ≡ ends_seen (ended keeping_seen (seen y) (if b then turn_read bind_seen h (bind_front y.1) s >>= more_seen (seen y) else nothing_seen))
      go true f = turn (turn_read bind h y.1 s) f ∙ ap (λ (r : Answer Token (Turn Seen)). ends_seen (ended keeping_seen (seen y) (r >>= more_seen (seen y)))) (sym (turns_same y.1 s))
      go false f = last_same y s

  pub functors_start : (s : List Token) (y : Bind Seen) (r : List Token) → bind_seen s ≡ Ok (y, r) → mapped funbinds (levels.functors cs h) s ≡ rows.row bind_seen h funbind_made (functor_less cs h) (([], 0), y) r
  functors_start s y r e =
      let a = other_gives bind_front bind s y r e in
      rows.row_start bind h funbind_of (functor_bind_less cs h) s (a.0, r) a.1
      ∙ (same (length r) (([], 0), a.0) r ∙ ap (λ (z : Bind Seen). rows.row bind_seen h funbind_made (functor_less cs h) (([], 0), z) r) a.2)

  pub functors_start_fails : (f : ReadError Token) (s : List Token) → Fails f (bind_seen s) → Fails f (mapped funbinds (levels.functors cs h) s)
  functors_start_fails f s e = rows.row_first_fails bind h funbind_of (functor_bind_less cs h) f s (mapped_fails bind_front bind s f e)
