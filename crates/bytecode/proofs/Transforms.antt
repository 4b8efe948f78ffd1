-- All bytecode forms of a stream, those outside first: what is known of the table while its rows are visited. Document 02, §1. Assumes nothing.
use Prim.Native.Nat.{ℕ, ◌≤◌, ◌<◌}
use mathlib.Core.Path.{◌≡◌, refl, ◌∙◌}
use mathlib.Core.List.{List, [], ◌∷◌}
use mathlib.Core.Bool.{false}
use native.Mathlib.Omega.{arith}
use Rattle.spec.specs.Nodes.{Nodes}
use Rattle.spec.specs.Bytecode.{Around, all, if_listed, transform_all}
use Rattle.rows.specs.Rows.{WrittenAll, NodesAt}
use Rattle.rows.proofs.Nodes.{written_order, written_done, written_more, written_whole}
use Rattle.bytecode.specs.Numbers.{child, Changed, Aside}
use Rattle.bytecode.specs.Named.{nothing, outermost}
use Rattle.bytecode.specs.Gathered.{SameLinks, SameOthers, Measured}
use Rattle.bytecode.specs.Frames.{plain, Frame}
use Rattle.bytecode.specs.Scanned.{here, AroundAt, Fresh, Stacked, Goals, Standing, Moved, Readable}
use Rattle.bytecode.specs.declared.scan.Scan.{Scan}
use Rattle.bytecode.proofs.Changing.{changed_none, changed_then, aside_none, aside_changed, aside_wider, aside_then, written_all_kept}
use Rattle.bytecode.proofs.Goals.{goal_done}
use Rattle.bytecode.proofs.Frames.{fresh_holds}
use Rattle.bytecode.proofs.Scanned.{stacked_order}

-- what is left, where the expressions es were at first
pub record Left (s t : List ℕ) (rows : ℕ) (scan : Scan) (es : Nodes) : Type 0 where
  pub frames : List Frame
  pub around : Around
  pub stacked : Stacked s t scan.row scan.around around rows frames
  pub standing : 0 < rows → Standing s t scan rows frames
  pub goals : (u : List ℕ) → Aside t u scan.row rows → Goals s u frames → NodesAt s u false 0 rows (transform_all es)

-- of a table that was t
pub record Transforming (s t t' : List ℕ) (rows : ℕ) (scan : Scan) : Type 0 where
  pub changed : Changed t t' 0 rows
  pub nodes : Nodes
  pub written : WrittenAll s t 0 rows nodes
  pub left : (es : Nodes) → WrittenAll s t 0 rows es → Left s t' rows scan es

-- the whole stream, measured

abbrev whole : ℕ → Nodes → Frame
whole rows es = record { first = 0; end = rows; elements = es; mode = plain; around = []; list = 0 }

pub transforming_all : {s t t' : List ℕ} {rows : ℕ} → Readable s t rows → Changed t t' 0 rows → SameLinks t t' → SameOthers t t' → Measured s t' 0 rows
    → Transforming s t' t' rows (record { row = 0; around = 0 })
unfolding Stacked Goals if_listed all
transforming_all {s} {t} {t'} {rows} r c links others m = record {
  changed = changed_none t' 0 rows;
  nodes = r.nodes;
  written = written_all_kept s c r.nodes 0 rows r.written;
  left = λ es w. record {
    frames = whole rows es ∷ [];
    around = [];
    stacked = stacked es w;
    standing = λ l. record { few = r.few; around = []; arounds = none l; stacked = stacked es w };
    goals = λ u d g. g.0.nodes;
  };
}
  where
    -- the tree of row 0 is empty
    none : 0 < rows → AroundAt s t' 0 0 []
    none some =
        let m = written_more s t 0 rows r.nodes r.written some in
        let empty_tree : child t' 1 0 ≡ 0 = (links 0).1 ∙ omega (arith, (r.bare 0 some).1) in
        record {
          to = 1;
          arounds = record {
            node = λ k. 0;
            tree = record { finds = λ k. rw empty_tree nothing; inside = omega (arith, (written_whole s t 0 m.head m.node).0, c.same_length); begins = omega arith };
            roles = λ k. refl;
            nested = outermost;
            ended = λ l. absurd (omega arith);
          };
          before = λ l. absurd (omega arith);
        }

    fresh : (es : Nodes) → WrittenAll s t' 0 rows es → Fresh s t' 0 rows es
    fresh es w = record {
      written = w;
      unlinked = λ q h l. ((links q).0 ∙ omega (arith, r.bare q l), (links q).1 ∙ omega (arith, r.bare q l));
      unmarked = λ q h l k. others q (λ z. omega (arith, z, k, (c.same_rows q).same_kind)) ∙ omega (arith, r.bare q l);
      measured = m;
    }

    stacked : (es : Nodes) → WrittenAll s t' 0 rows es → Stacked s t' 0 0 [] rows (whole rows es ∷ [])
    stacked es w = (refl, record { holds = fresh_holds s t' (whole rows es) 0 rows es (fresh es w); low = λ z. absurd (cc z); lasts = λ l. absurd (omega arith) }, here, refl)

-- one visit
pub transforming_on : {s t t' u : List ℕ} {rows : ℕ} {scan on : Scan} → Transforming s t t' rows scan
    → ((end : ℕ) (fs : List Frame) → Standing s t' scan end fs → scan.row < end → Moved s t' u scan on end fs) → scan.row < rows
    → (scan.row < on.row) × Transforming s t u rows on
transforming_on {u = u} {rows} {scan} k f l =
    let some : 0 < rows = omega arith in
    let one = k.left k.nodes k.written in
    let m = f rows one.frames (one.standing some) l in (
      m.further,
      record {
        changed = changed_then k.changed (aside_changed m.changed);
        nodes = k.nodes;
        written = k.written;
        left = λ es w.
            let a = k.left es w in
            let n = f rows a.frames (a.standing some) l in
            record {
              frames = n.frames;
              around = n.standing.around;
              stacked = n.standing.stacked;
              standing = λ i. n.standing;
              goals = λ v d g. a.goals v (aside_then n.changed (aside_wider d scan.row rows (omega (arith, n.further)) (omega arith))) (n.goals v d g);
            };
      },
    )

-- no row is left
goals_done : (s t : List ℕ) (at list : ℕ) (around : Around) (end : ℕ) (fs : List Frame) → Stacked s t at list around end fs → end ≤ at → Goals s t fs
unfolding Stacked Goals
goals_done s t at list around end [] k l = tt
goals_done s t at list around end (f ∷ fs) k l =
    let on = written_order s t f.first f.end f.elements k.1.holds.written in
    let last = stacked_order s t f.end f.list f.around end fs k.3 in (
      goal_done s t f (written_done s t f.first f.end f.elements k.1.holds.written (omega (arith, k.0))) (omega (arith, k.0, on, last)),
      goals_done s t f.end f.list f.around end fs k.3 (omega (arith, on, k.0)),
    )

pub transforming_done : {s t t' : List ℕ} {rows : ℕ} {scan : Scan} → Transforming s t t' rows scan → rows ≤ scan.row → (es : Nodes) → WrittenAll s t 0 rows es
    → NodesAt s t' false 0 rows (transform_all es)
transforming_done {s} {t' = t'} {rows} {scan} k l es w =
    let a = k.left es w in
    a.goals t' (aside_none t' scan.row rows) (goals_done s t' scan.row scan.around a.around rows a.frames a.stacked l)
