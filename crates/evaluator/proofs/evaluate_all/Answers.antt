-- `evaluator::evaluate_all` meets its contract: the nodes of the stream as a list, evaluated from its beginning. Assumes nothing.
use Rattle.std.proofs.Common.{replicate}
use Rattle.spec.specs.Evaluation.{start}
use Rattle.evaluator.proofs.Evaluations.{stream_ready, stream_ended}
use Rattle.evaluator.proofs.evaluate_all.Goals as goal

pub list-requires : goal.list-requires
list-requires c =
    let pre = c.requires in
    record {
      bound = _;
      codes = 32;
      nodes = _;
      here = start;
      ready = stream_ready _ _ _ _ pre.arranged.1 c.args.w.now (replicate 64 0) (replicate 64 0) (replicate 256 0) c.args.steps c.start.result c.start.ensures
          pre.w_len_bound;
    }

pub returns : goal.returns
returns c es at =
    let ready = stream_ready _ _ _ es at c.args.w.now (replicate 64 0) (replicate 64 0) (replicate 256 0) c.args.steps c.start.result c.start.ensures
    c.requires.w_len_bound in
    stream_ended _ _ _ es at _ _ _ c.list.result (c.list.ensures.0 _ 32 _ start ready)
