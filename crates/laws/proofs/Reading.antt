-- Laws of `read`: what holds of a meaning that was read, and that the canonical bytes of such a meaning are read as that meaning.
-- Document 01: "Bytes to expressions", "Canonical". Assumes nothing.
use Prim.Native.Nat.{ℕ, zero, suc, ◌+◌, ◌-◌, ◌≤◌, ◌<◌}
use mathlib.Core.Path.{◌≡◌, refl, sym, ap, ◌∙◌, subst}
use mathlib.Core.List.{List, [], ◌∷◌, ◌++◌, append_assoc, append-nil}
use mathlib.Core.Bool.{Bool, true, false}
use lib.ListN.{length, get_or, length-append}
use lib.Dec.{ltb}
use borrow.Author.Tests.{ltb-true, ltb-false, le-ltb, lt-leb, ne_eqb}
use native.Mathlib.Omega.{arith}
use native.Mathlib.Numerals.{add-one}
use Rattle.spec.specs.Expr.{when◌then◌else◌, Atom, Expr, atom, form, Exprs, none, more, rows, rows_all, depth, deepest, bytes, canonical}
use Rattle.spec.specs.Reading.{Token, opening, closing, whole, token, tokens, Verdict, right, wrong, began, check, put, wrap, lists, Row, rows_of, refused, readable, by_verdict, read}
use Rattle.laws.specs.Demands.{Bytes, meaning_of}
use Rattle.laws.proofs.Basics.{impossible}
use Rattle.laws.proofs.Fits.{FitsExpr, FitsAll}
use Rattle.laws.specs.Grammar.{SpellsAtom, Spells, SpellsAll}
use Rattle.laws.proofs.Spelling.{Front, front, canonical_atom}
use Rattle.laws.proofs.Tokens.{Right, at_end, opens, closes, stands, right_tokens, Laid, tokens_laid, RefusalInside, check_refusal, tokens_few, check_began}
use Rattle.laws.proofs.Rows.{rows_in, rows_count, rows_room, right_room}

-- What was read

-- the lists that tokens fill, at d open forms: each fits, and none is too deep where it stands
abbrev ListsFit : ℕ → List Exprs → Type 0
ListsFit d [] = ⊥
ListsFit zero (es ∷ []) = FitsAll es × (deepest es ≤ 64)
ListsFit zero (es ∷ fs ∷ ls) = ⊥
ListsFit (suc d) (es ∷ ls) = FitsAll es × (deepest es + suc d ≤ 64) × ListsFit d ls

-- their canonical bytes, with a byte 02 for each
abbrev weight : List Exprs → ℕ
weight [] = 0
weight (es ∷ ls) = length (canonical es) + 1 + weight ls

put_sound : (d : ℕ) (e : Expr) (ls : List Exprs) → FitsExpr e → depth e + d ≤ 64 → ListsFit d ls
    → ListsFit d (put e ls) × (weight (put e ls) ≡ length (bytes e) + weight ls)
unfolding depth bytes
put_sound zero e [] f h s = absurd s
put_sound zero e (es ∷ []) f h s = (((f, s.0), omega (arith, s.1)), simp length-append (omega arith))
put_sound zero e (es ∷ fs ∷ ls) f h s = absurd s
put_sound (suc d) e [] f h s = absurd s
put_sound (suc d) e (es ∷ ls) f h s = (((f, s.0), omega (arith, s.1), s.2), simp length-append (omega arith))

wrap_sound : (d : ℕ) (ls : List Exprs) → ListsFit (suc d) ls → ListsFit d (wrap ls) × (weight (wrap ls) ≡ weight ls + 1)
unfolding depth bytes
wrap_sound d [] s = absurd s
wrap_sound d (es ∷ ls) s =
    let p = put_sound d (form es) ls s.0 (omega (arith, s.1)) s.2 in
    (p.0, simp length-append at p.1 ∙ omega arith)

lists_sound : {room : ℕ} {ts : List Token} {d n : ℕ} → Right room ts d n → (end p : ℕ) → d ≤ 64 → Laid p ts end
    → ListsFit d (lists ts) × (p + weight (lists ts) ≤ end + 1)
unfolding lists depth bytes
lists_sound at_end end p h l = ((tt, omega arith), omega arith)
lists_sound (opens {ts} {q} {d} g k c) end p h l =
    let a = lists_sound c end (q + 1) (omega arith) l.1 in
    let b = wrap_sound d (lists ts) (rw (add-one d) at a.0) in
    (b.0, omega (arith, a.1, b.1, l.0))
lists_sound (closes {q = q} c) end p h l =
    let a = lists_sound c end (q + 1) (omega arith) l.1 in
    ((tt, omega arith, a.0), omega (arith, a.1, l.0))
lists_sound (stands {ts} {a} {e = e} {d} k c) end p h l =
    let s = lists_sound c end e h l.4 in
    let b = put_sound d (atom a) (lists ts) l.3 (omega arith) s.0 in
    (b.0, omega (arith, s.1, b.1, l.0, l.2))

pub stream_laid : (s : List ℕ) → Bytes s → Laid 0 (tokens 0 0 s) (length s)
stream_laid s b = subst (λ (x : ℕ). Laid 0 (tokens 0 0 s) x) (omega arith) (tokens_laid s 0 0 b (omega arith))

-- how a stream is readable
pub record Readable (s : List ℕ) (room : ℕ) (rs : List Row) (es : Exprs) : Type 0 where
  pub short : length s ≤ 65536
  pub well : Right room (tokens 0 0 s) 0 0
  pub rows_are : rs ≡ rows_of (tokens 0 0 s)
  pub means : es ≡ meaning_of s

pub read_readable : (s : List ℕ) (room : ℕ) (rs : List Row) (es : Exprs) → read s room ≡ readable rs es → Readable s room rs es
unfolding read
read_readable s room rs es h = go (ltb 65536 (length s)) refl (check 0 room (tokens 0 0 s) 0 0) refl h
  where
    go : (b : Bool) → ltb 65536 (length s) ≡ b → (v : Verdict) → check 0 room (tokens 0 0 s) 0 0 ≡ v
        → (when b then refused 1 0 else by_verdict v (tokens 0 0 s)) ≡ readable rs es → Readable s room rs es
    go true e v k h = impossible (cc)
    go false e right k h = record { short = ltb-false 65536 (length s) e; well = right_tokens 0 room (tokens 0 0 s) 0 0 k; rows_are = cc; means = cc }
    go false e (wrong w p) k h = impossible (cc)

pub readable_read : (s : List ℕ) (room : ℕ) → length s ≤ 65536 → check 0 room (tokens 0 0 s) 0 0 ≡ right
    → read s room ≡ readable (rows_of (tokens 0 0 s)) (meaning_of s)
unfolding read
readable_read s room h k = rw (le-ltb 65536 (length s) h, k)

-- a refusal has one of reading's numbers, and its place is a byte of the stream; with as many rows as bytes there is always a row left
pub read_refusal : (s : List ℕ) (room w p : ℕ) → Bytes s → read s room ≡ refused w p
    → (1 ≤ w) × (w ≤ 8) × (w ≤ 7 + (length s - room)) × (p < length s)
unfolding read
read_refusal s room w p b h =
    let inside = check_refusal 0 (length s) room (length s) (tokens 0 0 s) 0 0 0 0 (omega arith) (λ z. omega arith) (omega arith) (stream_laid s b) (omega (arith, tokens_few s 0 0)) in
    go (ltb 65536 (length s)) refl (check 0 room (tokens 0 0 s) 0 0) inside h
  where
    go : (c : Bool) → ltb 65536 (length s) ≡ c → (v : Verdict) → RefusalInside 0 (length s) room (length s) v
        → (when c then refused 1 0 else by_verdict v (tokens 0 0 s)) ≡ refused w p → (1 ≤ w) × (w ≤ 8) × (w ≤ 7 + (length s - room)) × (p < length s)
    go true e v r h = let number : 1 ≡ w = cc in let place : 0 ≡ p = cc in omega (arith, ltb-true 65536 (length s) e)
    go false e right r h = impossible (cc)
    go false e (wrong v q) r h = let number : v ≡ w = cc in let place : q ≡ p = cc in omega arith

pub read_refused : (s : List ℕ) (room w p : ℕ) → Bytes s → read s room ≡ refused w p → (1 ≤ w) × (w ≤ 8) × (p < length s)
read_refused s room w p b h = omega (arith, read_refusal s room w p b h)

-- the rows that were counted are enough
pub read_enough : (s : List ℕ) (room : ℕ) (rs : List Row) (es : Exprs) → read s room ≡ readable rs es → (room' : ℕ) → length rs ≤ room'
    → read s room' ≡ readable rs es
read_enough s room rs es h room' k =
    let r = read_readable s room rs es h in
    let size : length rs ≡ length (rows_of (tokens 0 0 s)) = ap length r.rows_are in
    rw (r.rows_are, r.means) (readable_read s room' r.short (right_room r.well 0 room' (omega arith)))

-- what holds of a meaning that was read: its canonical bytes can be read too, in as many rows, and are no more than the stream's
pub record Meant (s : List ℕ) (room : ℕ) (rs : List Row) (es : Exprs) : Type 0 where
  pub fits : FitsAll es
  pub shallow : deepest es ≤ 64
  pub shorter : length (canonical es) ≤ length s
  pub short : length (canonical es) ≤ 65536
  pub counted : length rs ≡ rows_all es
  pub roomy : rows_all es ≤ room

pub read_meant : (s : List ℕ) (room : ℕ) (rs : List Row) (es : Exprs) → Bytes s → Readable s room rs es → Meant s room rs es
read_meant s room rs es b r =
    let ts = tokens 0 0 s in
    let sound = lists_sound r.well (length s) 0 (omega arith) (stream_laid s b) in
    let size : length rs ≡ length (rows_of ts) = ap length r.rows_are in
    subst (λ (x : Exprs). Meant s room rs x) (sym r.means)
    (only_list (lists ts) sound.0 sound.1 (size ∙ (rows_count r.well).0)
    (omega (arith, size, rows_room r.well (omega arith))))
  where
    only_list : (ls : List Exprs) → ListsFit 0 ls → 0 + weight ls ≤ length s + 1 → length rs ≡ rows_in ls → length rs ≤ room
        → Meant s room rs (get_or ls 0 none)
    only_list [] o w c k = absurd o
    only_list (fs ∷ []) o w c k = record {
      fits = o.0;
      shallow = o.1;
      shorter = omega arith;
      short = omega (arith, r.short);
      counted = omega arith;
      roomy = omega arith;
    }
    only_list (fs ∷ gs ∷ ls) o w c k = absurd o

pub meant : (s : List ℕ) (room : ℕ) (rs : List Row) (es : Exprs) → Bytes s → read s room ≡ readable rs es → Meant s room rs es
meant s room rs es b h = read_meant s room rs es b (read_readable s room rs es h)

-- Bytes that spell expressions

-- bytes that belong to the token before
tokens_skip : (x s : List ℕ) (p : ℕ) → tokens p (length x) (x ++ s) ≡ tokens (p + length x) 0 s
unfolding tokens
tokens_skip [] s p = ap (λ (q : ℕ). tokens q 0 s) (omega arith)
tokens_skip (b ∷ x) s p = tokens_skip x s (p + 1) ∙ ap (λ (q : ℕ). tokens q 0 s) (omega arith)

pub tokens_opening : (p : ℕ) (s : List ℕ) → tokens p 0 (0x01 ∷ s) ≡ opening p ∷ tokens (p + 1) 0 s
unfolding tokens token
tokens_opening p s = refl

pub tokens_form : (x : List ℕ) (p : ℕ) (s : List ℕ) → tokens p 0 (0x01 ∷ ((x ++ (0x02 ∷ [])) ++ s)) ≡ opening p ∷ tokens (p + 1) 0 (x ++ (0x02 ∷ s))
tokens_form x p s = tokens_opening p ((x ++ (0x02 ∷ [])) ++ s) ∙ ap (λ y. opening p ∷ tokens (p + 1) 0 y) (append_assoc x (0x02 ∷ []) s)

pub tokens_closing : (p : ℕ) (s : List ℕ) → tokens p 0 (0x02 ∷ s) ≡ closing p ∷ tokens (p + 1) 0 s
unfolding tokens token
tokens_closing p s = refl

token_atom : (a : Atom) (x : List ℕ) (f : Front a x) (p : ℕ) (s : List ℕ)
    → token p f.byte (f.others ++ s) ≡ whole a p (p + suc (length f.others))
unfolding token
token_atom a x f p s =
    let end : p + 1 + length (f.others ++ s) - length s ≡ p + suc (length f.others) = simp length-append (omega arith) in
    rw (ne_eqb f.byte 0x01 f.no_form.0, ne_eqb f.byte 0x02 f.no_form.1, f.reads s, end)

pub tokens_atom : (a : Atom) (x : List ℕ) → SpellsAtom a x → (p : ℕ) (s : List ℕ)
    → tokens p 0 (x ++ s) ≡ whole a p (p + length x) ∷ tokens (p + length x) 0 s
unfolding tokens
tokens_atom a x sp p s =
    let f = front a x sp in
    let n : ℕ = length f.others in
    let further_bytes : p + suc n - p - 1 ≡ n = omega arith in
    rw (f.is, token_atom a x f p s, further_bytes, tokens_skip f.others s (p + 1)) (ap (λ (q : ℕ). whole a p (p + suc n) ∷ tokens q 0 s) (omega arith))

-- where a form ends, and a list
pub form_end : (x : List ℕ) (p : ℕ) → p + 1 + length x + 1 ≡ p + suc (length (x ++ (0x02 ∷ [])))
form_end x p = simp length-append (omega arith)

pub more_end : (x y : List ℕ) (p : ℕ) → p + length x + length y ≡ p + length (x ++ y)
more_end x y p = simp length-append (omega arith)

-- the tokens of spelled expressions, from place p on, in front of others
unfoldable mutual
  pub expr_tokens : (e : Expr) (x : List ℕ) → Spells e x → ℕ → List Token → List Token
  expr_tokens (atom a) x sp p ts = whole a p (p + length x) ∷ ts
  expr_tokens (form es) x sp p ts = opening p ∷ all_tokens es sp.0 sp.2 (p + 1) (closing (p + 1 + length sp.0) ∷ ts)

  pub all_tokens : (es : Exprs) (x : List ℕ) → SpellsAll es x → ℕ → List Token → List Token
  all_tokens none x sp p ts = ts
  all_tokens (more e es) x sp p ts = expr_tokens e sp.0 sp.3 p (all_tokens es sp.1 sp.4 (p + length sp.0) ts)

mutual
  unfolding expr_tokens

  pub tokens_expr : (e : Expr) (x : List ℕ) (sp : Spells e x) (p : ℕ) (s : List ℕ) → tokens p 0 (x ++ s) ≡ expr_tokens e x sp p (tokens (p + length x) 0 s)
  tokens_expr (atom a) x sp p s = tokens_atom a x sp p s
  tokens_expr (form es) x sp p s =
      let y = sp.0 in
      rw (sp.1, tokens_form y p s, tokens_all es y sp.2 (p + 1) (0x02 ∷ s), tokens_closing (p + 1 + length y) s, form_end y p)

  pub tokens_all : (es : Exprs) (x : List ℕ) (sp : SpellsAll es x) (p : ℕ) (s : List ℕ)
      → tokens p 0 (x ++ s) ≡ all_tokens es x sp p (tokens (p + length x) 0 s)
  tokens_all none x sp p s = rw sp (ap (λ (q : ℕ). tokens q 0 s) (omega arith))
  tokens_all (more e es) x sp p s =
      let y = sp.0 in
      let z = sp.1 in
      rw (sp.2, append_assoc y z s, tokens_expr e y sp.3 p (z ++ s), tokens_all es z sp.4 (p + length y) s, more_end y z p)

-- a list of expressions in front of the lists that tokens fill
abbrev put_all : Exprs → List Exprs → List Exprs
put_all none ls = ls
put_all (more e es) ls = put e (put_all es ls)

put_all_none : (es : Exprs) (ls : List Exprs) → put_all es (none ∷ ls) ≡ es ∷ ls
put_all_none none ls = refl
put_all_none (more e es) ls = ap (put e) (put_all_none es ls)

mutual
  unfolding lists expr_tokens

  lists_expr : (e : Expr) (x : List ℕ) (sp : Spells e x) (p : ℕ) (ts : List Token) → lists (expr_tokens e x sp p ts) ≡ put e (lists ts)
  lists_expr (atom a) x sp p ts = refl
  lists_expr (form es) x sp p ts = ap wrap (lists_all es sp.0 sp.2 (p + 1) _ ∙ put_all_none es (lists ts))

  lists_all : (es : Exprs) (x : List ℕ) (sp : SpellsAll es x) (p : ℕ) (ts : List Token) → lists (all_tokens es x sp p ts) ≡ put_all es (lists ts)
  lists_all none x sp p ts = refl
  lists_all (more e es) x sp p ts = lists_expr e sp.0 sp.3 p _ ∙ ap (put e) (lists_all es sp.1 sp.4 _ ts)

-- a stream that begins with bytes that spell an expression begins with that expression
pub read_first : (e : Expr) (x s : List ℕ) → Spells e x → Bytes (x ++ s) → (room : ℕ) (rs : List Row) (es : Exprs) → read (x ++ s) room ≡ readable rs es
    → (fs : Exprs) × (es ≡ more e fs)
read_first e x s sp b room rs es h =
    let r = read_readable (x ++ s) room rs es h in
    let are : lists (tokens 0 0 (x ++ s)) ≡ put e (lists (tokens (0 + length x) 0 s)) =
    ap lists (tokens_expr e x sp 0 s) ∙ lists_expr e x sp 0 (tokens (0 + length x) 0 s) in
    let sound = (lists_sound r.well (length (x ++ s)) 0 (omega arith) (stream_laid (x ++ s) b)).0 in
    go (lists (tokens (0 + length x) 0 s)) (rw are at sound) (r.means ∙ ap (λ (ls : List Exprs). get_or ls 0 none) are)
  where
    go : (ls : List Exprs) → ListsFit 0 (put e ls) → es ≡ get_or (put e ls) 0 none → (fs : Exprs) × (es ≡ more e fs)
    go [] f q = absurd f
    go (fs ∷ ls) f q = (fs, q)

module _ (room : ℕ) where
  mutual
    unfolding check rows depth expr_tokens

    pub check_expr : (e : Expr) (x : List ℕ) (sp : Spells e x) (from p d n : ℕ) (ts : List Token) → depth e + d ≤ 64 → n + rows e ≤ room
        → check from room (expr_tokens e x sp p ts) d n ≡ check from room ts d (n + rows e)
    check_expr (atom a) x sp from p d n ts h k = rw (lt-leb room n (omega arith))
    check_expr (form es) x sp from p d n ts h k =
        let back : d + 1 - 1 ≡ d = omega arith in
        let count : n + 1 + rows_all es ≡ n + (1 + rows_all es) = omega arith in
        let inner = check_list es sp.0 sp.2 (began d from p) (p + 1) (d + 1) (n + 1) (closing (p + 1 + length sp.0) ∷ ts) (omega arith) (omega arith) in
        rw (lt-leb 64 d (omega arith), lt-leb room n (omega arith), inner, ne_eqb (d + 1) 0 (λ z. omega arith), back, count)
        (check_began from room p ts d (n + (1 + rows_all es)))

    pub check_list : (es : Exprs) (x : List ℕ) (sp : SpellsAll es x) (from p d n : ℕ) (ts : List Token) → deepest es + d ≤ 64 → n + rows_all es ≤ room
        → check from room (all_tokens es x sp p ts) d n ≡ check from room ts d (n + rows_all es)
    check_list none x sp from p d n ts h k = ap (check from room ts d) (omega arith)
    check_list (more e es) x sp from p d n ts h k =
        check_expr e sp.0 sp.3 from p d n _ (omega arith) (omega arith)
        ∙ check_list es sp.1 sp.4 from (p + length sp.0) d (n + rows e) ts (omega arith) (omega arith)
        ∙ ap (check from room ts d) (omega arith)

  pub check_all : (es : Exprs) (x : List ℕ) → SpellsAll es x → (from p d n : ℕ) (s : List ℕ) → deepest es + d ≤ 64 → n + rows_all es ≤ room
      → check from room (tokens p 0 (x ++ s)) d n ≡ check from room (tokens (p + length x) 0 s) d (n + rows_all es)
  check_all es x sp from p d n s h k = rw (tokens_all es x sp p s) (check_list es x sp from p d n _ h k)

-- bytes that spell expressions are read as these
pub read_spelled : (es : Exprs) (s : List ℕ) (room : ℕ) → SpellsAll es s → deepest es ≤ 64 → length s ≤ 65536 → rows_all es ≤ room
    → read s room ≡ readable (rows_of (tokens 0 0 s)) es
unfolding check lists tokens
read_spelled es s room sp h l r =
    let passes : check 0 room (tokens 0 0 s) 0 0 ≡ right =
    ap (λ (x : List ℕ). check 0 room (tokens 0 0 x) 0 0) (sym (append-nil s)) ∙ check_all room es s sp 0 0 0 0 [] (omega arith) (omega arith) in
    let means : meaning_of s ≡ es =
    ap (λ (x : List ℕ). meaning_of x) (sym (append-nil s)) ∙ rw (tokens_all es s sp 0 [], lists_all es s sp 0 [], put_all_none es []) in
    readable_read s room l passes ∙ ap (readable (rows_of (tokens 0 0 s))) means

-- canonical bytes spell
mutual
  unfolding bytes

  pub canonical_expr : (e : Expr) → FitsExpr e → Spells e (bytes e)
  canonical_expr (atom a) f = canonical_atom a f
  canonical_expr (form es) f = (canonical es, refl, canonical_spells es f)

  pub canonical_spells : (es : Exprs) → FitsAll es → SpellsAll es (canonical es)
  canonical_spells none f = refl
  canonical_spells (more e es) f = (bytes e, canonical es, refl, canonical_expr e f.0, canonical_spells es f.1)

pub read_canonical : (es : Exprs) (room : ℕ) → FitsAll es → deepest es ≤ 64 → length (canonical es) ≤ 65536 → rows_all es ≤ room
    → read (canonical es) room ≡ readable (rows_of (tokens 0 0 (canonical es))) es
read_canonical es room f = read_spelled es (canonical es) room (canonical_spells es f)
