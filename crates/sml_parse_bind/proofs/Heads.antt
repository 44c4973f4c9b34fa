-- The fronts of clauses, where the code has their parts without heights.
use Rattle.std.proofs.Common.{◌≡◌, ℕ, ◌<◌, true, false, ltb, List, length, Ok, Err, refl, sym, ap, ◌∙◌, inl, inr}
use Rattle.std.proofs.lemmas.Bool.{lt-ltb}
use Rattle.readers.specs.declared.code.Code.{Code}
use Rattle.readers.specs.declared.code.Code.TheVariants.{Depth}
use Rattle.readers.specs.Reader.{first, head_is, both, mapped}
use Rattle.readers.specs.Forms.{ended}
use Rattle.readers.proofs.Outcome.{ok_of, ok_is, err_of, not_both}
use Rattle.sml_lex.specs.declared.token.Token.{Token}
use Rattle.sml_fix.specs.Fixities.{Settings}
use Rattle.sml_grammar.specs.Tokens.{tokens_of, among, infix_names}
use Rattle.sml_grammar.specs.ReadPats as pats
use Rattle.sml_grammar_exp.specs.Binds.{Vid}
use Rattle.sml_grammar_exp.specs.ReadBinds.{vid_read}
use Rattle.sml_grammar_exp.specs.Clauses as grammar
use Rattle.sml_grammar_exp.specs.ReadClauses as read
use Rattle.sml_parse_bind.specs.declared.head.Front.{Front}
use Rattle.sml_parse_bind.specs.Heads as heads
use Rattle.sml_parse_bind.proofs.Steps.{mapped_mapped, behind_ended}

module _ (fix : Settings) (h : ℕ) where
  -- behind the name
  pub prefix_named : (v : Vid) (s rest : List Token) → vid_read fix s ≡ Ok (v, rest) → mapped heads.bare (heads.prefix fix h) s ≡ mapped (heads.named v) (heads.closed_pats fix h) rest
  prefix_named v s rest e =
      let all = read.many_read (pats.begins_at fix) (heads.at fix h) in
      mapped_mapped grammar.Head.Prefix heads.bare (ended (tokens_of read.head_goes) (both (vid_read fix) all)) s
      ∙ behind_ended (λ x. heads.bare (grammar.Head.Prefix x)) (tokens_of read.head_goes) (vid_read fix) all s rest v e

  -- the arguments of a front
  pub arguments_are : (x : read.Front) (s : List Token) → heads.arguments fix h (heads.front x) s ≡ mapped heads.bare (heads.behind fix h x) s
  arguments_are (read.Front.Named v) s = sym (mapped_mapped (read.head_of (read.Front.Named v)) heads.bare (read.args_read fix (heads.at fix h) (read.Front.Named v)) s)
  arguments_are (read.Front.Parted x) s = sym (mapped_mapped (read.head_of (read.Front.Parted x)) heads.bare (read.args_read fix (heads.at fix h) (read.Front.Parted x)) s)

  -- the front that was read, the tokens behind it, and its arguments
  front_of : (s : List Token) (z : (Front × ℕ) × List Token) → mapped heads.front (read.front_read fix (heads.at fix h)) s ≡ Ok z
      → (x : read.Front × List Token) × (read.front_read fix (heads.at fix h) s ≡ Ok x) × (x.1 ≡ z.1) × (heads.arguments fix h z.0 z.1 ≡ mapped heads.bare (heads.behind fix h x.0) x.1)
  front_of s z e =
      let a = ok_of (read.front_read fix (heads.at fix h) s) (λ x. Ok (heads.front x.0, x.1)) z e in
      let same = ok_is (heads.front a.0.0, a.0.1) z a.2 in
      (a.0, a.1, ap (λ (y : (Front × ℕ) × List Token). y.1) same, ap (λ (y : (Front × ℕ) × List Token). heads.arguments fix h y.0 y.1) (sym same) ∙ arguments_are a.0.0 a.0.1)

  no_front : (s : List Token) (d : Code × List Token) → mapped heads.front (read.front_read fix (heads.at fix h)) s ≡ Err d → read.front_read fix (heads.at fix h) s ≡ Err d
  no_front s d e =
      elim (err_of (read.front_read fix (heads.at fix h) s) (λ x. Ok (heads.front x.0, x.1)) d e) [
        | inl a ↦ a
        | inr a ↦ not_both (heads.front a.0.0, a.0.1) d a.2
      ]

  -- where no operator follows the pattern
  pub plain_front : (s r : List Token) (z : (Front × ℕ) × List Token) → mapped heads.front (read.front_read fix (heads.at fix h)) s ≡ Ok z → heads.plain fix h s r ≡ heads.arguments fix h z.0 z.1
  plain_front s r z e = let x = front_of s z e in rw x.1 (sym x.3)

  -- where there is no room for the pattern
  pub low_operator : (s r : List Token) (z : (Front × ℕ) × List Token) → mapped heads.front (read.front_read fix (heads.at fix h)) s ≡ Ok z → head_is (among fix infix_names) (first z.1) ≡ true
      → heads.low fix h s r ≡ Err (Depth, z.1)
  low_operator s r z e i =
      let x = front_of s z e in
      let next : head_is (among fix infix_names) (first x.0.1) ≡ true = ap (λ (y : List Token). head_is (among fix infix_names) (first y)) x.2 ∙ i in
      rw x.1 (rw next (rw x.2 refl))

  pub low_front : (s r : List Token) (z : (Front × ℕ) × List Token) → mapped heads.front (read.front_read fix (heads.at fix h)) s ≡ Ok z → head_is (among fix infix_names) (first z.1) ≡ false
      → heads.low fix h s r ≡ heads.arguments fix h z.0 z.1
  low_front s r z e i =
      let x = front_of s z e in
      let next : head_is (among fix infix_names) (first x.0.1) ≡ false = ap (λ (y : List Token). head_is (among fix infix_names) (first y)) x.2 ∙ i in
      rw x.1 (rw next (sym x.3))

  pub low_before : (s r : List Token) (d : Code × List Token) → mapped heads.front (read.front_read fix (heads.at fix h)) s ≡ Err d → length d.1 < length r → heads.low fix h s r ≡ Err (heads.settled fix h s d.1, d.1)
  low_before s r d e lt =
      let before : ltb (length d.1) (length r) ≡ true = lt-ltb (length d.1) (length r) lt in
      rw (no_front s d e) (rw before refl)
