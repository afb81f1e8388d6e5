use Rattle.bench_runs.proofs.Words.{[], refl, Bytes32, One, scene_before}
use Rattle.bench_runs.proofs.run.run_bench.Goals as goal

pub returns-in-Err-Line : goal.returns-in-Err-Line
returns-in-Err-Line g c = record {
  run = record {
    header = record { version = One; context_size = Bytes32; rings = [] };
    past = [];
    steps = [];
    scene = scene_before (record { version = One; context_size = Bytes32; rings = [] }) [];
    reached = refl;
    scheduled = tt;
    ends = tt;
  };
}
