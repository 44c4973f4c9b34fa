-- The fronts of clauses are read exactly.
use Rattle.std.proofs.Common.{◌≡◌, ℕ, ◌≤◌, Bool, true, false, not, ◌||◌, List, [], ◌∷◌, ◌++◌, Option, Some, None, Err, refl, sym, ap, subst, ◌∙◌, arith, inl, inr}
use Rattle.readers.specs.declared.code.Code.{Code}
use Rattle.readers.specs.Reader.{first, head_is, both, mapped, token_by, close, row}
use Rattle.readers.specs.Language.{Joined, Both, Viable, Shows, Row, As}
use Rattle.readers.specs.Room.{Room}
use Rattle.readers.specs.Exact.{Reads, Refuses, always}
use Rattle.readers.specs.Forms.{highest, height_of, ended}
use Rattle.readers.proofs.Bundle.{Known, Part, Phrase, mono}
use Rattle.readers.proofs.Combine.{shown_test, token, phrase, pair, made, made_phrase, closed, sized_phrase}
use Rattle.readers.proofs.Repeat.{rows}
use Rattle.readers.proofs.Choose.{last, some_of, ends, ends_phrase}
use Rattle.readers.proofs.Outcome.{head-append}
use Rattle.readers.proofs.Row.{not_true, row_stop_alone}
use Rattle.sml_lex.specs.declared.token.Token.{Token}
use Rattle.sml_fix.specs.Fixities.{Settings}
use Rattle.sml_grammar.specs.Words.{CLOSE_PAREN, OP, OPEN_PAREN}
use Rattle.sml_grammar.specs.Tokens.{just, union, is, the, among, tokens_of, ident, infix_names, infix_vid, plain_names, plain_long_names}
use Rattle.sml_grammar.specs.Types.{Ident}
use Rattle.sml_grammar.specs.Pats.{Ap, AtR}
use Rattle.sml_grammar.specs.ReadPats.{name_firsts, other_firsts, at_firsts as pat_firsts, begins_at as begins_pat}
use Rattle.sml_grammar.proofs.Sets.{is_just, among_union, apart_here_is, pick_if}
use Rattle.sml_grammar.proofs.Shapes.{word_token, word_is, stops, the_word}
use Rattle.sml_grammar.proofs.Joined.{narrow}
use Rattle.sml_grammar.proofs.Pats.{at_in, at_exact}
use Rattle.sml_grammar_exp.specs.Binds.{Vid, VidD}
use Rattle.sml_grammar_exp.specs.ReadBinds.{vid_begins, begins_vid}
use Rattle.sml_grammar_exp.specs.Clauses.{Parens, Head, head_height, pair_height, PairD, ParensD, Many, HeadR}
use Rattle.sml_grammar_exp.specs.ReadClauses.{Front, front_read, head_of, args_read, any_head, prefix_read, head_read, begins_head, head_goes, many_read}
use Rattle.sml_grammar_exp.proofs.Binds.{vids}
use Rattle.sml_grammar_exp.proofs.Decs.{many, word_in}
use Rattle.sml_grammar_exp.proofs.Fronts.{Fronts, up, Lang, lang_reads}
use Rattle.sml_grammar_exp.proofs.Farther.{lang_refuses}
use Rattle.sml_grammar_exp.proofs.Short.{plain_is_long}
use Rattle.sml_grammar_exp.proofs.Embeds.{FrontD, emb, embeds, inverse}

-- what stops the front of a clause
abbrev head_stop : {T : Type 0} → T → Option Token → Bool
head_stop t = stops head_goes

abbrev front_tall : Front → ℕ
front_tall (Front.Named v) = 0
front_tall (Front.Parted x) = pair_height x.1

atom_over : (fix : Settings) (o : Option Token) → stops head_goes o ≡ true → not (head_is (begins_pat fix) o) ≡ true
atom_over fix o e = narrow fix pat_firsts head_goes refl o e

module _ (fix : Settings) {s : Known} {n : ℕ} where
  args_many : Phrase s n 0 (λ k. Many (AtR fix k)) (λ k. ended (tokens_of head_goes) (many_read (begins_pat fix) (at_in fix k))) head_stop (highest height_of) 1 0 (begins_pat fix) 1
  args_many = ends_phrase (tokens_of head_goes) (many (at_exact fix s n)) (λ k t w o i d e. atom_over fix o e)

  args_row : Part s n 0 (λ k. Row (AtR fix k)) (λ k. ended (tokens_of head_goes) (row (begins_pat fix) (at_in fix k))) head_stop (highest height_of) 0 0
  args_row = ends (tokens_of head_goes) (rows (at_exact fix s n) (λ t c e. refl)) (λ k t w o i d e. row_stop_alone (begins_pat fix) t o ∙ atom_over fix o e)

  -- ---- where no identifier is an operator

  prefixes : Phrase s n 0 (λ k. As Head.Prefix (Both (VidD fix) (Many (AtR fix k)))) (λ k. prefix_read fix (at_in fix k) k.height) head_stop head_height 1 0 (begins_vid fix) 1
  prefixes = last (made_phrase Head.Prefix head_height head_stop (ends_phrase (tokens_of head_goes) (phrase (vids fix) args_plain.part) (λ k t w o i d e. atom_over fix o e)) (λ x. omega arith) (λ x o. refl)) (omega arith)
    where
      args_plain : Phrase s n 0 (λ k. Many (AtR fix k)) (λ k. many_read (begins_pat fix) (at_in fix k)) (λ t o. not (head_is (begins_pat fix) o)) (highest height_of) 1 0 (begins_pat fix) 1
      args_plain = many (at_exact fix s n)

  -- ---- where some are

  atoms : Phrase s n 0 (AtR fix) (at_in fix) always height_of 1 0 (begins_pat fix) 1
  atoms = at_exact fix s n

  module _ (c : Token) (e : among fix infix_names c ≡ true) where
    operated : Phrase s n 0 (λ k. Both (Shows (infix_vid fix)) (AtR fix k)) (λ k. both (token_by (infix_vid fix)) (at_in fix k)) always (λ x. height_of x.1) 1 1 (among fix infix_names) 1
    operated = sized_phrase (λ x. height_of x.1) (phrase (token (among fix infix_names) ident c e) atoms.part) (λ x. omega arith)

    mid_part : Phrase s n 0 (λ k. Both (Shows (infix_vid fix)) (AtR fix k)) (λ k. ended (tokens_of head_goes) (both (token_by (infix_vid fix)) (at_in fix k))) head_stop (λ x. height_of x.1) 1 1 (among fix infix_names) 1
    mid_part = ends_phrase (tokens_of head_goes) operated (λ k t w o i d e. refl)

    pair_part : Part s n 0 (λ k. PairD fix (AtR fix k)) (λ k. both (at_in fix k) (both (token_by (infix_vid fix)) (at_in fix k))) always pair_height 1 1
    pair_part = pair atoms.part operated.part

    parens : Phrase s n 0 (λ k. ParensD fix (AtR fix k)) (λ k. both (token_by (the OPEN_PAREN)) (close (both (at_in fix k) (both (token_by (infix_vid fix)) (at_in fix k))) (is CLOSE_PAREN))) always (λ x. pair_height x.1) 1 1 (is OPEN_PAREN) 1
    parens = sized_phrase (λ x. pair_height x.1) (phrase (the_word OPEN_PAREN) (closed (is CLOSE_PAREN) (word_token CLOSE_PAREN) (word_is CLOSE_PAREN) pair_part (λ t c e. refl))) (λ x. omega arith)

    fronts : Phrase s n 0 (λ k. FrontD fix (AtR fix k)) (λ k. front_read fix (at_in fix k)) always front_tall 0 1 (among fix (union vid_begins (just OPEN_PAREN))) 1
    fronts = pick_if fix vid_begins (just OPEN_PAREN) (λ c. refl) (is_just fix OPEN_PAREN)
        (made_phrase Front.Named front_tall always (vids fix) (λ x. refl) (λ x o. refl))
        (made_phrase Front.Parted front_tall always parens (λ x. refl) (λ x o. refl))
        (omega arith) refl

    -- the three forms
    mids : Part s n 0 (λ k. As Head.Mid (PairD fix (AtR fix k))) (λ k. mapped Head.Mid (both (at_in fix k) (both (token_by (infix_vid fix)) (at_in fix k)))) (λ t o. true) head_height 1 1
    mids = made Head.Mid head_height (λ t o. true) pair_part (λ x. refl) (λ x o. refl)

    mores : Part s n 0 (λ k. As Head.MidMore (Both (ParensD fix (AtR fix k)) (Row (AtR fix k))))
        (λ k. mapped Head.MidMore (both (both (token_by (the OPEN_PAREN)) (close (both (at_in fix k) (both (token_by (infix_vid fix)) (at_in fix k))) (is CLOSE_PAREN))) (ended (tokens_of head_goes) (row (begins_pat fix) (at_in fix k))))) head_stop head_height 1 1
    mores = made Head.MidMore head_height head_stop (pair parens.part args_row) (λ x. refl) (λ x o. refl)

named_is : {v w : Vid} → Front.Named v ≡ Front.Named w → v ≡ w
named_is e = cc

parted_is : {x y : Parens} → Front.Parted x ≡ Front.Parted y → x ≡ y
parted_is e = cc

-- arguments behind a front
abbrev ArgsD : Settings → Room → Front → List Ap → List Token → Type 0
ArgsD fix r (Front.Named v) = Many (AtR fix r)
ArgsD fix r (Front.Parted x) = Row (AtR fix r)

module _ (fix : Settings) where
  args_low : Front → ℕ
  args_low (Front.Named v) = 1
  args_low (Front.Parted x) = 0

  args : (x : Front) (n : ℕ) → Part Known.Refusals n 0 (λ r. ArgsD fix r x) (λ r. args_read fix (at_in fix r) x) head_stop (highest height_of) (args_low x) 0
  unfolding args_low
  args (Front.Named v) n = let P = args_many fix in P.part
  args (Front.Parted x) n = args_row fix

  low_is : (x : Front) → args_low x ≤ 1
  unfolding args_low
  low_is (Front.Named v) = omega arith
  low_is (Front.Parted x) = omega arith

  pat_no_op : (o : Option Token) → head_is (begins_pat fix) o ≡ true → head_is (among fix infix_names) o ≡ false
  pat_no_op None e = refl
  pat_no_op (Some c) e = apart_here_is fix pat_firsts infix_names refl c e

  quiet : (r : Room) (x : Front) (y : List Ap) (w t : List Token) → ArgsD fix r x y w → stops head_goes (first t) ≡ true → head_is (among fix infix_names) (first (w ++ t)) ≡ false
  quiet r (Front.Named v) y w t d st = let P = args_many fix {s = Known.Refusals} {n = 0} in pat_no_op (first (w ++ t)) (head-append (begins_pat fix) w t (P.opening.begins r y w tt d))
  quiet r (Front.Parted x) [] w t d st =
      let off : head_is (among fix infix_names) (first t) ≡ false = not_true (head_is (among fix infix_names) (first t)) (narrow fix infix_names head_goes refl (first t) st) in
      ap (λ (z : List Token). head_is (among fix infix_names) (first (z ++ t))) d ∙ off
  quiet r (Front.Parted x) (a ∷ y) w t d st =
      let P = at_exact fix Known.Refusals 0 in
      pat_no_op (first (w ++ t)) (head-append (begins_pat fix) w t (subst (λ (z : List Token). head_is (begins_pat fix) (first z) ≡ true) (sym d.whole) (head-append (begins_pat fix) d.front d.back (P.opening.begins r a d.front tt d.left))))

module _ (fix : Settings) (c : Token) (e : among fix infix_names c ≡ true) where
  facts : Fronts (among fix infix_names) (stops head_goes) (AtR fix) (at_in fix) (λ r. FrontD fix (AtR fix r)) (λ r. front_read fix (at_in fix r)) (λ r. Both (Shows (infix_vid fix)) (AtR fix r))
      (λ r. ended (tokens_of head_goes) (both (token_by (infix_vid fix)) (at_in fix r))) (ArgsD fix) (λ r. args_read fix (at_in fix r)) emb
  facts = record {
    q_reads = λ r. let P = at_exact fix Known.Refusals 0 in P.part.reads r tt;
    q_mono = λ r s a w u d. let P = at_exact fix Known.Refusals 0 in mono P.part r s a w tt u d;
    q_refuses = λ r v x i. let P = at_exact fix Known.Refusals r.height in P.part.refuses r (omega arith) (omega arith) v x i;
    k_reads = λ r. let P = fronts fix {s = Known.Refusals} {n = 0} c e in P.part.reads r tt;
    k_mono = λ r s x w u d. let P = fronts fix {s = Known.Refusals} {n = 0} c e in mono P.part r s x w tt u d;
    k_refuses = λ r v x le i. let P = fronts fix {s = Known.Refusals} {n = r.height} c e in P.part.refuses r (omega arith) le v x i;
    m_reads = λ r. let P = mid_part fix {s = Known.Refusals} {n = 0} c e in P.part.reads r tt;
    m_mono = λ r s y w u d. let P = mid_part fix {s = Known.Refusals} {n = 0} c e in mono P.part r s y w tt u d;
    m_refuses = λ r v x le i. let P = mid_part fix {s = Known.Refusals} {n = r.height} c e in P.part.refuses r (omega arith) le v x i;
    m_begins = λ r y w d. let P = mid_part fix {s = Known.Refusals} {n = 0} c e in P.opening.begins r y w tt d;
    m_some = λ r le. let P = mid_part fix {s = Known.Refusals} {n = 0} c e in P.part.some r tt le;
    m_starts = λ r x le i. let P = mid_part fix {s = Known.Refusals} {n = 0} c e in P.opening.starts r x tt le i;
    g_reads = λ r x. let P = args fix x 0 in P.reads r tt;
    g_mono = λ r s x y w u d. mono (args fix x 0) r s y w tt u d;
    g_refuses = λ r x v y le i. let P = args fix x r.height in P.refuses r (omega arith) (omega arith) v y i;
    g_some = λ r x le. let P = args fix x 0 in P.some r tt (let l = low_is fix x in omega (arith, l, le));
    g_quiet = λ r x y w t d st. quiet fix r x y w t d st;
    embeds = λ r x w d. embeds fix r x w d;
    inverse = λ r x w d. inverse fix r x w d;
  }

  abbrev mid_of : Ap × (Ident × Ap) → Head
  mid_of x = Head.Mid x

  abbrev front_of : Front × List Ap → Head
  front_of x = head_of x.0 x.1

  -- the two grammars are one
  into : (r : Room) (t : Head) (w : List Token) → HeadR fix r t w → Lang facts mid_of front_of r t w
  into r t w (inl d) = inr ((Front.Named d.0.0, d.0.1), d.1, record { front = d.2.front; back = d.2.back; left = inl (d.0.0, refl, d.2.left); right = d.2.right; whole = d.2.whole })
  into r t w (inr (inl d)) = inl d
  into r t w (inr (inr d)) = inr ((Front.Parted d.0.0, d.0.1), d.1, record { front = d.2.front; back = d.2.back; left = inr (d.0.0, refl, d.2.left); right = d.2.right; whole = d.2.whole })

  front_back : (r : Room) (x : Front) (y : List Ap) (w : List Token) → Joined (FrontD fix (AtR fix r) x) (ArgsD fix r x y) w → HeadR fix r (head_of x y) w
  front_back r (Front.Named v) y w j = inl ((v, y), refl, record { front = j.front; back = j.back; left = by_left j.left; right = j.right; whole = j.whole })
    where
      by_left : FrontD fix (AtR fix r) (Front.Named v) j.front → VidD fix v j.front
      by_left (inl d) = subst (λ (v : Vid). VidD fix v j.front) (named_is d.1) d.2
      by_left (inr d) = let n : Front.Parted d.0 ≡ Front.Named v = d.1 in absurd cc
  front_back r (Front.Parted x) y w j = inr (inr ((x, y), refl, record { front = j.front; back = j.back; left = by_left j.left; right = j.right; whole = j.whole }))
    where
      by_left : FrontD fix (AtR fix r) (Front.Parted x) j.front → ParensD fix (AtR fix r) x j.front
      by_left (inl d) = let n : Front.Named d.0 ≡ Front.Parted x = d.1 in absurd cc
      by_left (inr d) = subst (λ (x : Parens). ParensD fix (AtR fix r) x j.front) (parted_is d.1) d.2

  out_of : (r : Room) (t : Head) (w : List Token) → Lang facts mid_of front_of r t w → HeadR fix r t w
  out_of r t w (inl d) = inr (inl d)
  out_of r t w (inr d) = subst (λ (t : Head). HeadR fix r t w) d.1 (front_back r d.0.0 d.0.1 w d.2)

  out_viable : (r : Room) (u : List Token) → Viable (Lang facts mid_of front_of r) u → Viable (HeadR fix r) u
  out_viable r u v = record { tree = v.tree; more = v.more; derives = out_of r v.tree (u ++ v.more) v.derives }

  any_reads : (r : Room) → Reads (HeadR fix r) head_stop (any_head fix (at_in fix r) (at_in fix (up r)))
  any_reads r = let R = lang_reads facts mid_of front_of r in record {
    complete = λ t w q d st. R.complete t w q (into r t w d) st;
    sound = λ v z i. let f = R.sound v z i in record { read = f.read; derives = out_of r z.0 f.read f.derives; parts = f.parts; stops = f.stops };
  }

  any_refuses : (r : Room) (v : List Token) (x : Code × List Token) → 1 ≤ r.height → any_head fix (at_in fix r) (at_in fix (up r)) v ≡ Err x → Refuses (HeadR fix) (λ k. any_head fix (at_in fix k) (at_in fix (up k))) r v x
  any_refuses r v x le i = let f = lang_refuses facts mid_of front_of r v x le i in record {
    read = f.read;
    parts = f.parts;
    viable = elim f.viable [ inl z ↦ inl z | inr y ↦ inr (out_viable r f.read y) ];
    local = f.local;
    deep = λ dp. let g = f.deep dp in record { room = g.room; eased = g.eased; token = g.token; is = g.is; viable = out_viable g.room (f.read ++ g.token ∷ []) g.viable };
  }

-- ---- both

-- a name without infix status, or `op`, begins an atomic pattern
vid_first : (fix : Settings) (c : Token) → among fix vid_begins c ≡ true → among fix pat_firsts c ≡ true
vid_first fix c e =
    elim (some_of (among fix (just OP) c) (among fix plain_names c) (sym (among_union fix (just OP) plain_names c) ∙ e)) [
      | inl a ↦ word_in fix OP pat_firsts refl c (is_just fix OP c ∙ a)
      | inr a ↦ among_union fix name_firsts other_firsts c ∙ ap (λ (x : Bool). x || among fix other_firsts c) (among_union fix plain_long_names (just OP) c ∙ ap (λ (x : Bool). x || among fix (just OP) c) (plain_is_long fix c a))
    ]

vid_head : (fix : Settings) (o : Option Token) → head_is (begins_vid fix) o ≡ true → head_is (begins_pat fix) o ≡ true
vid_head fix None e = absurd cc
vid_head fix (Some c) e = vid_first fix c e

paren_head : (fix : Settings) (o : Option Token) → head_is (is OPEN_PAREN) o ≡ true → head_is (begins_pat fix) o ≡ true
paren_head fix None e = absurd cc
paren_head fix (Some c) e = word_in fix OPEN_PAREN pat_firsts refl c e

module _ (fix : Settings) (c : Token) (e : among fix infix_names c ≡ true) (s : Known) (n : ℕ) where
  any : Phrase s n 0 (HeadR fix) (λ k. any_head fix (at_in fix k) (at_in fix (up k))) head_stop head_height 1 1 (begins_pat fix) 1
  any =
      let P = prefixes fix {s = Known.Refusals} {n = 0} in
      let M = mids fix {s = Known.Refusals} {n = 0} c e in
      let R = mores fix {s = Known.Refusals} {n = 0} c e in
      let A = at_exact fix Known.Refusals 0 in
      let B = parens fix {s = Known.Refusals} {n = 0} c e in
      let W = mid_part fix {s = Known.Refusals} {n = 0} c e in
      record {
        part = record {
          above = λ k t w i d. omega arith;
          least = λ k t w i d. elim d [ inl a ↦ P.part.least k t w tt a | inr b ↦ elim b [ inl a ↦ M.least k t w tt a | inr a ↦ R.least k t w tt a ] ];
          lowest = λ k t w i d. elim d [ inl a ↦ P.part.lowest k t w tt a | inr b ↦ elim b [ inl a ↦ M.lowest k t w tt a | inr a ↦ R.lowest k t w tt a ] ];
          fits = λ h k t w i b l d. elim d [ inl a ↦ inl (P.part.fits h k t w tt b l a) | inr x ↦ elim x [ inl a ↦ inr (inl (M.fits h k t w tt b l a)) | inr a ↦ inr (inr (R.fits h k t w tt b l a)) ] ];
          some = λ h i l. let v = M.some h tt l in record { tree = v.tree; more = v.more; derives = inr (inl v.derives) };
          reads = λ k i. any_reads fix c e k;
          refuses = λ h i l v x j. any_refuses fix c e h v x l j;
        };
        opening = record {
          begins = λ k t w i d. elim d [
            | inl a ↦ vid_head fix (first w) (P.opening.begins k t w tt a)
            | inr b ↦ elim b [
              | inl a ↦ let j = a.2 in subst (λ (z : List Token). head_is (begins_pat fix) (first z) ≡ true) (sym j.whole) (head-append (begins_pat fix) j.front j.back (A.opening.begins k a.0.0 j.front tt j.left))
              | inr a ↦ let j = a.2 in subst (λ (z : List Token). head_is (begins_pat fix) (first z) ≡ true) (sym j.whole) (head-append (begins_pat fix) j.front j.back (paren_head fix (first j.front) (B.opening.begins k a.0.0 j.front tt j.left)))
            ]
          ];
          starts = λ h x i l o.
              let a = A.opening.starts h x tt l o in
              let b = W.part.some h tt l in
              record { tree = Head.Mid (a.tree, b.tree); more = a.more ++ b.more; derives = inr (inl ((a.tree, b.tree), refl, record { front = x ∷ a.more; back = b.more; left = a.derives; right = b.derives; whole = refl })) };
          bars = λ k v i o. let none = A.opening.bars k v tt o in rw none refl;
        };
      }

  pub some_heads : Phrase s n 0 (HeadR fix) (λ k. head_read true k.height k.clashes fix) head_stop head_height 1 0 (begins_head true fix) 1
  some_heads = last any (omega arith)

-- where no identifier is an operator the other two forms have no phrase
module _ (fix : Settings) (s : Known) (n : ℕ) (none_here : (c : Token) → among fix infix_names c ≡ true → ⊥) where
  no_shown : (y : Ident) (w : List Token) → Shows (infix_vid fix) y w → ⊥
  no_shown y w d = none_here d.token (shown_test (among fix infix_names) ident d.token y d.shows)

  prefix_only : (k : Room) (t : Head) (w : List Token) → HeadR fix k t w → As Head.Prefix (Both (VidD fix) (Many (AtR fix k))) t w
  prefix_only k t w (inl d) = d
  prefix_only k t w (inr (inl d)) = let j = d.2 in let i = j.right in absurd (no_shown d.0.1.0 i.front i.left)
  prefix_only k t w (inr (inr d)) = let j = d.2.left in let i = j.right in let p = i.left in let q = p.right in absurd (no_shown d.0.0.1.1.0 q.front q.left)

  pub no_heads : Phrase s n 0 (HeadR fix) (λ k. head_read false k.height k.clashes fix) head_stop head_height 1 0 (begins_head false fix) 1
  no_heads =
      let P = prefixes fix {s = s} {n = n} in
      record {
        part = record {
          above = λ k t w i d. omega arith;
          least = λ k t w i d. P.part.least k t w i (prefix_only k t w d);
          lowest = λ k t w i d. P.part.lowest k t w i (prefix_only k t w d);
          fits = λ h k t w i b l d. inl (P.part.fits h k t w i b l (prefix_only h t w d));
          some = λ h i l. let v = P.part.some h i l in record { tree = v.tree; more = v.more; derives = inl v.derives };
          reads = λ k i. let R = P.part.reads k i in record {
            complete = λ t w q d st. R.complete t w q (prefix_only k t w d) st;
            sound = λ v z j. let f = R.sound v z j in record { read = f.read; derives = inl f.derives; parts = f.parts; stops = f.stops };
          };
          refuses = λ h i l v x j. let f = P.part.refuses h i l v x j in record {
            read = f.read;
            parts = f.parts;
            local = f.local;
            viable = elim f.viable [ inl z ↦ inl z | inr y ↦ inr (record { tree = y.tree; more = y.more; derives = inl y.derives }) ];
            deep = λ dp. let g = f.deep dp in let y = g.viable in record { room = g.room; eased = g.eased; token = g.token; is = g.is; viable = record { tree = y.tree; more = y.more; derives = inl y.derives } };
          };
        };
        opening = record {
          begins = λ k t w i d. P.opening.begins k t w i (prefix_only k t w d);
          starts = λ h c i l o. let v = P.opening.starts h c i l o in record { tree = v.tree; more = v.more; derives = inl v.derives };
          bars = P.opening.bars;
        };
      }
