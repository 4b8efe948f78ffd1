-- What `emit` has written when it has come to a place of the stream, and that a turn keeps it, whatever token there is. Document 01: "Canonical". Assumes nothing.
use Prim.Native.Nat.{ℕ, ◌+◌, ◌-◌, ◌≤◌, ◌<◌}
use mathlib.Core.Path.{◌≡◌, refl, sym, ap, ◌∙◌}
use mathlib.Core.List.{List, [], ◌∷◌, ◌++◌, append_assoc, append-nil}
use lib.ListN.{length, drop, length-append}
use lib.Seq.{sets}
use borrow.Rule.Slice.PartMut.{mid_of, mid_len}
use native.Mathlib.Omega.{arith}
use Rattle.std.specs.Prelude.{Result, Ok, Err}
use Rattle.spec.specs.Expr.{atom_bytes, canonical}
use Rattle.spec.specs.Reading.{Token, opening, closing, whole, unfinished, bad}
use Rattle.spec.specs.Calls.{over}
use Rattle.laws.specs.Demands.{Bytes, meaning_of, CanRead}
use Rattle.laws.proofs.Tokens.{Right, right_opening, right_closing, right_whole, right_first}
use Rattle.laws.proofs.Reading.{read_readable}
use Rattle.laws.proofs.Steps.{tokens_from, tokens_end}
use Rattle.laws.proofs.Written.{bytes_of, token_bytes, canonical_stream}
use Rattle.atoms.specs.Refusals.{told}
use Rattle.atoms.specs.Tokens.{token_at, shown, atom_head}
use Rattle.atoms.specs.declared.Kind.{Kind}
use Rattle.atoms.specs.declared.Token.{Token as Answer}
use Rattle.atoms.specs.declared.Token.TheVariants.{Opening, Closing, Atom as Whole, Unfinished}
use Rattle.atoms.specs.declared.refusal.Refusal.{Refusal}
use Rattle.atoms.proofs.Next.{AtomAt, Next, next}
use Rattle.writer.specs.Bytes.{put_at, Put, with_head}
use Rattle.writer.proofs.Puts.{length_put_at, stored, written_on}

-- tokens that are right at some depth, after some rows
abbrev Passes : ℕ → List Token → Type 0
Passes room ts = (d : ℕ) × (n : ℕ) × Right room ts d n

passes_on : (room : ℕ) (t : Token) (ts : List Token) → Passes room (t ∷ ts) → Passes room ts
passes_on room (opening p) ts (d, n, r) = (d + 1, n + 1, (right_opening r).2)
passes_on room (closing p) ts (d, n, r) = (d - 1, n, (right_closing r).1)
passes_on room (whole a p e) ts (d, n, r) = (d, n + 1, (right_whole r).1)
passes_on room (unfinished p) ts (d, n, r) = absurd (right_first r)
passes_on room (bad w p) ts (d, n, r) = absurd (right_first r)

-- at place p of the stream `done` is written, and the bytes of the tokens from p on are left
pub record Emitted (s out₀ out : List ℕ) (p to : ℕ) : Type 0 where
  pub stream : Bytes s
  pub short : length s ≤ 65536
  pub fits : length (canonical (meaning_of s)) ≤ length out₀
  pub same : length out ≡ length out₀
  pub inside : p ≤ length s
  pub passes : Passes (length s) (tokens_from s p)
  pub done : List ℕ
  pub all : canonical (meaning_of s) ≡ done ++ token_bytes (tokens_from s p)
  pub put : Put out₀ 0 done out to

pub emitted_none : (s out₀ : List ℕ) → Bytes s → CanRead s → length (canonical (meaning_of s)) ≤ length out₀ → Emitted s out₀ out₀ 0 0
unfolding put_at
emitted_none s out₀ stream r fits = record {
  stream = stream;
  short = (read_readable s (length s) _ _ r).short;
  fits = fits;
  same = refl;
  inside = omega arith;
  passes = (0, 0, (read_readable s (length s) _ _ r).well);
  done = [];
  all = sym (canonical_stream s r);
  put = record { place = refl; is = refl };
}

-- an atom from p up to e, its body from b on, and the bytes to write
pub record AtomTurn (s out₀ out : List ℕ) (p to b e : ℕ) (bytes : List ℕ) : Type 0 where
  pub ends : b ≤ e
  pub forward : p < e
  pub inside : e ≤ length s
  pub few : length bytes ≤ 65536
  pub room : to + length bytes ≤ length out
  pub on : {new : List ℕ} {past : ℕ} → Put out to bytes new past → Emitted s out₀ new e past

-- the byte of a token that has one
abbrev pub ByteTurn : (s out₀ out : List ℕ) (p to : ℕ) → Token → Type 0
ByteTurn s out₀ out p to t = (to + length (bytes_of t) ≤ length out) × Emitted s out₀ (sets out to (bytes_of t)) (p + 1) (to + length (bytes_of t))

abbrev pub EmitTurn : (s out₀ out : List ℕ) (p to : ℕ) → Result Answer Refusal → Type 0
EmitTurn s out₀ out p to (Ok Opening) = ByteTurn s out₀ out p to (opening p)
EmitTurn s out₀ out p to (Ok Closing) = ByteTurn s out₀ out p to (closing p)
EmitTurn s out₀ out p to (Ok (Whole k b e)) = AtomTurn s out₀ out p to b e (with_head k (mid_of b (e - b) s))
EmitTurn s out₀ out p to (Ok Unfinished) = ⊥
EmitTurn s out₀ out p to (Err r) = ⊥

module _ {s out₀ out : List ℕ} {p to : ℕ} (r : Emitted s out₀ out p to) where
  size : length (canonical (meaning_of s)) ≡ length r.done + length (token_bytes (tokens_from s p))
  size = ap length r.all ∙ length-append r.done (token_bytes (tokens_from s p))

  -- the next token
  module _ {t : Token} (q : ℕ) (step : tokens_from s p ≡ t ∷ tokens_from s q) where
    left : token_bytes (tokens_from s p) ≡ bytes_of t ++ token_bytes (tokens_from s q)
    unfolding token_bytes
    left = ap token_bytes step

    token_room : to + length (bytes_of t) ≤ length out
    token_room = omega (arith, size, r.put.place, ap length left ∙ length-append (bytes_of t) (token_bytes (tokens_from s q)))

    emitted_token : {new : List ℕ} {past : ℕ} → q ≤ length s → Put out to (bytes_of t) new past → Emitted s out₀ new q past
    emitted_token h w = record {
      stream = r.stream;
      short = r.short;
      fits = r.fits;
      same = ap length w.is ∙ length_put_at out to (bytes_of t) token_room ∙ r.same;
      inside = h;
      passes = passes_on (length s) t (tokens_from s q) (rw step at r.passes);
      done = r.done ++ bytes_of t;
      all = r.all ∙ rw left (sym (append_assoc r.done (bytes_of t) (token_bytes (tokens_from s q))));
      put = written_on (omega (arith, size)) r.put w;
    }

  turn_byte : {t : Token} → p < length s → tokens_from s p ≡ t ∷ tokens_from s (p + 1) → ByteTurn s out₀ out p to t
  turn_byte inside step =
      let room = token_room (p + 1) step in
      (room, emitted_token (p + 1) step (omega arith) (stored _ _ _ room))

  turn_atom : (k : Kind) (b e : ℕ) → AtomAt s p k b e → EmitTurn s out₀ out p to (Ok (Whole k b e))
  turn_atom k b e w =
      let part = mid_of b (e - b) s in
      let bytes : atom_bytes w.atom ≡ with_head k part = w.written ∙ ap (λ (n : ℕ). atom_head k n ++ part) (sym (mid_len b e s w.inside)) in
      record {
        ends = w.ends;
        forward = w.forward;
        inside = w.inside;
        few = rw (← bytes) (omega (arith, w.shorter, w.inside));
        room = rw (← bytes) (token_room e w.is);
        on = λ x. emitted_token e w.is w.inside (rw bytes x);
      }

  pub emit_turn : p < length s → (a : Result Answer Refusal) → told a ≡ shown (token_at s p) → EmitTurn s out₀ out p to a
  emit_turn inside a is = go a (next s p a r.stream inside is)
    where
      go : (a : Result Answer Refusal) → Next s p a → EmitTurn s out₀ out p to a
      go (Ok Opening) step = turn_byte inside step
      go (Ok Closing) step = turn_byte inside step
      go (Ok (Whole k b e)) w = turn_atom k b e w
      go (Ok Unfinished) x = right_first (rw x.1 at r.passes.2)
      go (Err w) x = right_first (rw x.1 at r.passes.2)

  pub emitted_all : length s ≤ p → out ≡ over (canonical (meaning_of s)) out₀
  unfolding put_at token_bytes
  emitted_all h =
      let whole : canonical (meaning_of s) ≡ r.done = r.all ∙ rw (tokens_end s p h) (append-nil r.done) in
      let place : 0 + length r.done ≡ length r.done = omega arith in
      r.put.is ∙ ap (λ (k : ℕ). r.done ++ drop k out₀) place ∙ ap (λ (bs : List ℕ). over bs out₀) (sym whole)
