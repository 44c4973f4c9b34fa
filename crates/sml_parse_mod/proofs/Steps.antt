-- The readers as the code goes through them: each takes a token, and behind the test of the room there is a level.
use Rattle.std.proofs.Common.{◌≡◌, ℕ, suc, ◌-◌, ◌<◌, Bool, true, false, List, Option, refl, ap, ◌∙◌, arith}
use Rattle.readers.specs.Reader.{Reader, both, mapped, one, shut, skip, token_by}
use Rattle.readers.specs.Room.{at_height}
use Rattle.readers.specs.Forms.{else_if, ended, nothing, optional}
use Rattle.readers.proofs.Bundle.{Known}
use Rattle.readers.proofs.RowLoop.{Shortens}
use Rattle.sml_lex.specs.declared.token.Token.{Token}
use Rattle.sml_scan.proofs.Shorter.{Keeps, kept, both_shorter, else_if_shorter, mapped_shorter, one_shorter, row_kept, shut_shorter, skip_shorter, token_shorter}
use Rattle.sml_grammar.specs.Words.{AND, EQUALS, SEMICOLON}
use Rattle.sml_grammar.specs.Tokens.{is, tokens_of, alphas, strid}
use Rattle.sml_grammar_exp.specs.Decs.{Changes}
use Rattle.sml_grammar_exp.specs.ReadDecs.{semis_read}
use Rattle.sml_grammar_sig.specs.Sigs.{Sx, is_real}
use Rattle.sml_grammar_mod.specs.Strs.{Ax, Param, Sd, strdec_alone}
use Rattle.sml_grammar_mod.specs.ReadStrs.{Bind, Growing, Turn, ascribe_read, ascription_read, base_read, begins_ascribe, behind_read, bind_read, funbinds_level, funbinds_read, grow_read, more_read, next_read, param_read, seals_read, sigbinds_level, sigbinds_read, str_item_goes, str_item_read, strbinds_level, strbinds_read, strdec_read, there_read, turn_by, turn_read, type_turn, whole}
use Rattle.sml_grammar_sig.specs.ReadSigs.{head_read}
use Rattle.sml_grammar_sig.specs.ReadDescs.{real_bind_read}
use Rattle.sml_grammar_mod.specs.Programs.{Tp, Before, Site}
use Rattle.sml_grammar_mod.specs.ReadPrograms.{begins_top, here_read, item_read, program_read, run_read, top_read}
use Rattle.sml_grammar_mod.proofs.Ascriptions.{ascribe_exact}
use Rattle.sml_grammar_mod.proofs.Rows.{param_now}
use Rattle.sml_grammar_mod.proofs.Grows.{grow_item, seals_now}
use Rattle.sml_grammar_mod.proofs.Later.{more_exact, there_exact}
use Rattle.sml_grammar_mod.proofs.Knot.{base_exact, strdec_exact}
use Rattle.sml_grammar_mod.proofs.Tops.{run_exact, top_exact}
use Rattle.sml_parse_bind.proofs.Steps.{phrase_less, ended_shorter, maybe_keeps}
use Rattle.sml_parse_mod.specs.Levels as levels
use Rattle.sml_parse_mod.specs.Trees.{bind_front}

-- ---- each reader takes a token

module _ (cs : Changes) (h : ℕ) where
  pub base_less : Shortens (base_read h false cs)
  base_less = phrase_less (base_exact cs Known.Readings h) (at_height h false) (omega arith)

  pub strdec_less : Shortens (strdec_read h false cs)
  strdec_less = phrase_less (strdec_exact cs Known.Readings h) (at_height h false) (omega arith)

  top_less : Shortens (top_read h false cs)
  top_less = phrase_less (top_exact cs Known.Readings h) (at_height h false) (omega arith)

  run_less : Shortens (run_read h false cs)
  run_less = phrase_less (run_exact cs Known.Readings h) (at_height h false) (omega arith)

  here_less : (b : Before) → Shortens (levels.here cs h b)
  here_less Before.Fresh = else_if_shorter begins_top (top_read h false cs) (run_read h false cs) top_less run_less
  here_less Before.Declared = top_less
  here_less Before.Evaluated = shut_shorter (λ c. false)

-- a declaration and its semicolons
pub str_item_less : (h : ℕ) (cs : Changes) → Shortens (str_item_read (strdec_read h false cs))
str_item_less h cs =
    let all : Reader Token (Sd × List (Unit {0})) = both (strdec_read h false cs) semis_read in
    mapped_shorter strdec_alone (ended (tokens_of str_item_goes) all) (ended_shorter (tokens_of str_item_goes) all
    (both_shorter (strdec_read h false cs) semis_read (strdec_less cs h) (row_kept (is SEMICOLON) (one (is SEMICOLON)) (one_shorter (is SEMICOLON)))))

pub item_less : (h : ℕ) (x : Site) → Shortens (item_read (top_read h false) (run_read h false) x)
item_less h x = both_shorter (levels.here x.0 h x.1) semis_read (here_less x.0 h x.1) (row_kept (is SEMICOLON) (one (is SEMICOLON)) (one_shorter (is SEMICOLON)))

-- what a structure expression goes on with
pub grow_less : (h : ℕ) (g : Growing) → Shortens (grow_read h g)
grow_less h g = phrase_less (grow_item {s = Known.Readings} {n = h} g) (at_height h false) (omega arith)

seals_less : (h : ℕ) (g : Growing) → Shortens (seals_read h g)
seals_less h g = phrase_less (seals_now {s = Known.Readings} {n = h} g) (at_height h false) (omega arith)

more_less : (h : ℕ) (x : Sx) → Shortens (more_read h x)
more_less h x = phrase_less (more_exact x Known.Readings h) (at_height h false) (omega arith)

there_less : (h : ℕ) (x : Sx) → Shortens (there_read h x)
there_less h x = phrase_less (there_exact x Known.Readings h) (at_height h false) (omega arith)

-- what follows a binding
module _ {F : Type 0} (bind : Reader Token (Bind F)) (h : ℕ) (less : Shortens bind) where
  next_less : Shortens (next_read bind)
  next_less = mapped_shorter Turn.Next bind less

  past_and : (p : Reader Token (Turn F)) → Shortens p → Shortens (skip (is AND) p)
  past_and p P = skip_shorter (is AND) p (kept p P)

  turn_by_less : (r : Bool) (x : Sx) → Shortens (turn_by r bind h x)
  turn_by_less true x =
      let p : Reader Token (Turn F) = else_if (tokens_of alphas) (next_read bind) (mapped type_turn (more_read h x)) in
      let q : Reader Token (Turn F) = mapped type_turn (there_read h x) in
      else_if_shorter (is AND) (skip (is AND) p) q
      (past_and p (else_if_shorter (tokens_of alphas) (next_read bind) (mapped type_turn (more_read h x)) next_less (mapped_shorter type_turn (more_read h x) (more_less h x))))
      (mapped_shorter type_turn (there_read h x) (there_less h x))
  turn_by_less false x =
      let q : Reader Token (Turn F) = mapped type_turn (there_read h x) in
      else_if_shorter (is AND) (skip (is AND) (next_read bind)) q (past_and (next_read bind) next_less) (mapped_shorter type_turn (there_read h x) (there_less h x))

  behind_less : (g : Growing) → Shortens (behind_read bind h g)
  behind_less (Growing.Whole s) = past_and (next_read bind) next_less
  behind_less (Growing.Sealed x) = turn_by_less (is_real x.1.1) x.1.1

  pub turn_less : (x : Bind F) → Shortens (turn_read bind h x)
  turn_less x = else_if_shorter begins_ascribe (mapped Turn.More (seals_read h x.1)) (behind_read bind h x.1) (mapped_shorter Turn.More (seals_read h x.1) (seals_less h x.1)) (behind_less x.1)

-- ---- fronts of bindings

ascription_keeps : (h : ℕ) → Keeps (ascription_read h)
ascription_keeps h = maybe_keeps begins_ascribe 2 (ascribe_read h) h (phrase_less (ascribe_exact Known.Readings h) (at_height h false) (omega arith))

front_less : (h : ℕ) → Shortens (levels.front h)
front_less h = both_shorter (token_by strid) (ascription_read h) (token_shorter strid) (ascription_keeps h)

functor_front_less : (h : ℕ) → Shortens (levels.functor_front h)
functor_front_less h =
    let param : Reader Token (Param × Option Ax) = both (param_read h) (ascription_read h) in
    both_shorter (token_by strid) param (token_shorter strid)
    (kept param (both_shorter (param_read h) (ascription_read h) (phrase_less (param_now Known.Readings h) (at_height h false) (omega arith)) (ascription_keeps h)))

-- bindings whose front is read so
bind_less : {F : Type 0} (front : Reader Token F) (cs : Changes) (h : ℕ) → Shortens front → Shortens (bind_read front (base_read h false cs))
bind_less front cs h less =
    let body : Reader Token Growing = mapped whole (base_read h false cs) in
    both_shorter front (skip (is EQUALS) body) less (kept (skip (is EQUALS) body) (skip_shorter (is EQUALS) body (kept body (mapped_shorter whole (base_read h false cs) (base_less cs h)))))

pub binding_less : (cs : Changes) (h : ℕ) → Shortens (levels.bind cs h)
binding_less cs h = bind_less (levels.front h) cs h (front_less h)

pub functor_bind_less : (cs : Changes) (h : ℕ) → Shortens (levels.functor_bind cs h)
functor_bind_less cs h = bind_less (levels.functor_front h) cs h (functor_front_less h)

pub functor_less : (cs : Changes) (h : ℕ) → Shortens (levels.functor cs h)
functor_less cs h = mapped_shorter bind_front (levels.functor_bind cs h) (functor_bind_less cs h)

-- ---- behind the test of the room

module _ (cs : Changes) where
  base_suc : (h : ℕ) (s : List Token) → base_read (suc h) false cs s ≡ levels.base cs h s
  unfolding base_read
  base_suc h s = refl

  pub base_is : (h : ℕ) (s : List Token) → 0 < h → base_read h false cs s ≡ levels.base cs (h - 1) s
  base_is h s lt = let same : h ≡ suc (h - 1) = omega arith in ap (λ (k : ℕ). base_read k false cs s) same ∙ base_suc (h - 1) s

  strdec_suc : (h : ℕ) (s : List Token) → strdec_read (suc h) false cs s ≡ levels.declaration cs h s
  unfolding strdec_read
  strdec_suc h s = refl

  pub strdec_is : (h : ℕ) (s : List Token) → 0 < h → strdec_read h false cs s ≡ levels.declaration cs (h - 1) s
  strdec_is h s lt = let same : h ≡ suc (h - 1) = omega arith in ap (λ (k : ℕ). strdec_read k false cs s) same ∙ strdec_suc (h - 1) s

  strbinds_suc : (h : ℕ) (s : List Token) → strbinds_read (suc h) false cs s ≡ strbinds_level (base_read h false cs) h s
  unfolding strbinds_read
  strbinds_suc h s = refl

  pub strbinds_is : (h : ℕ) (s : List Token) → 0 < h → strbinds_read h false cs s ≡ strbinds_level (base_read (h - 1) false cs) (h - 1) s
  strbinds_is h s lt = let same : h ≡ suc (h - 1) = omega arith in ap (λ (k : ℕ). strbinds_read k false cs s) same ∙ strbinds_suc (h - 1) s

  funbinds_suc : (h : ℕ) (s : List Token) → funbinds_read (suc h) false cs s ≡ funbinds_level (base_read h false cs) h s
  unfolding funbinds_read
  funbinds_suc h s = refl

  pub funbinds_is : (h : ℕ) (s : List Token) → 0 < h → funbinds_read h false cs s ≡ funbinds_level (base_read (h - 1) false cs) (h - 1) s
  funbinds_is h s lt = let same : h ≡ suc (h - 1) = omega arith in ap (λ (k : ℕ). funbinds_read k false cs s) same ∙ funbinds_suc (h - 1) s

  top_suc : (h : ℕ) (s : List Token) → top_read (suc h) false cs s ≡ levels.top_level cs h s
  unfolding top_read
  top_suc h s = refl

  pub top_is : (h : ℕ) (s : List Token) → 0 < h → top_read h false cs s ≡ levels.top_level cs (h - 1) s
  top_is h s lt = let same : h ≡ suc (h - 1) = omega arith in ap (λ (k : ℕ). top_read k false cs s) same ∙ top_suc (h - 1) s

  run_suc : (h : ℕ) (s : List Token) → run_read (suc h) false cs s ≡ levels.run_level cs h s
  unfolding run_read
  run_suc h s = refl

  pub run_is : (h : ℕ) (s : List Token) → 0 < h → run_read h false cs s ≡ levels.run_level cs (h - 1) s
  run_is h s lt = let same : h ≡ suc (h - 1) = omega arith in ap (λ (k : ℕ). run_read k false cs s) same ∙ run_suc (h - 1) s

  program_suc : (h : ℕ) (s : List Token) → program_read (suc h) false cs s ≡ levels.program cs h s
  unfolding program_read
  program_suc h s = refl

  pub program_is : (h : ℕ) (s : List Token) → 0 < h → program_read h false cs s ≡ levels.program cs (h - 1) s
  program_is h s lt = let same : h ≡ suc (h - 1) = omega arith in ap (λ (k : ℕ). program_read k false cs s) same ∙ program_suc (h - 1) s

sigbinds_suc : (h : ℕ) (s : List Token) → sigbinds_read (suc h) s ≡ sigbinds_level (head_read h) (real_bind_read h) h s
unfolding sigbinds_read
sigbinds_suc h s = refl

pub sigbinds_is : (h : ℕ) (s : List Token) → 0 < h → sigbinds_read h s ≡ sigbinds_level (head_read (h - 1)) (real_bind_read (h - 1)) (h - 1) s
sigbinds_is h s lt = let same : h ≡ suc (h - 1) = omega arith in ap (λ (k : ℕ). sigbinds_read k s) same ∙ sigbinds_suc (h - 1) s
