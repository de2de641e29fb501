-- The numbers of a stream by their places, and the one report of a simulation.
use Rattle.std.proofs.Common.{◌≡◌, ◌<◌, ◌≤◌, ℕ, List, ◌++◌, length, Option, Some, None, sym, ◌∙◌, ap, ap₂, arith}
use Rattle.std.specs.Prelude.{slice_index}
use Rattle.std.proofs.lemmas.List.FromFn.{get_or-map-range_with_len}
use Rattle.dotmix.specs.Draws.{dotmix}
use Rattle.dotmix.proofs.LawLemmas.{lists_draw_alike, seeds_draw_alike}
use Rattle.bulk_draw.specs.Streams.{later, stream}
use Rattle.ped_words.specs.Making.{gamma_from, hash_depth}
use Rattle.serial_meaning.specs.Plan.{PlanView, drawn}
use Rattle.serial_meaning.proofs.RisingPedigrees.Draws.{draws_are_dotmix}
use Rattle.strand_meaning.proofs.ElisionsStrands.StrandDraws.{strands_draw_dotmix}
use Rattle.sched_meaning.proofs.SimulationsEnd.Simulated.{sim_workers_are_unique}
use Rattle.engine.specs.Laws.{IsPlanBy, SimulationsAreOne, StreamsAreDraws}
use Rattle.engine.specs.Report.{run_report, worker_line}
use Rattle.engine.specs.declared.report.ReportEnd.{ReportEnd}

number_at : (gamma j : List ℕ) (count rounds i : ℕ) → i < count → slice_index (stream gamma j count rounds) i ≡ dotmix gamma (later j i) rounds
number_at gamma j count rounds i lt = get_or-map-range_with_len (λ k. dotmix gamma (later j k) rounds) 0 count i i 0 lt (omega arith)

drawn-alike : (given : Option (List ℕ)) (seed : ℕ) (plan : PlanView) (j : List ℕ) → IsPlanBy given seed plan → length j ≤ plan.limits.depth → dotmix (gamma_from given seed hash_depth) j plan.rounds ≡ drawn plan j
drawn-alike None seed plan j by within =
    seeds_draw_alike seed plan.limits.depth hash_depth by.depth_limit j plan.rounds within ∙ ap (λ gamma. dotmix gamma j plan.rounds) (sym by.coefficients)
drawn-alike (Some list) seed plan j by within =
    lists_draw_alike list plan.limits.depth hash_depth by.depth_limit j plan.rounds within ∙ ap (λ gamma. dotmix gamma j plan.rounds) (sym by.coefficients)

pub streams_are_draws : StreamsAreDraws
streams_are_draws given seed plan j count i by lt within =
    let same = number_at (gamma_from given seed hash_depth) j count plan.rounds i lt ∙ drawn-alike given seed plan (later j i) by within in record {
      strand = same;
      event = λ m is. same ∙ sym (draws_are_dotmix plan (later j i) m is);
      replayed = λ found m there is. same ∙ sym (strands_draw_dotmix plan (later j i) (later j i) m found there is).1;
    }

pub simulations_are_one : SimulationsAreOne
simulations_are_one plan workers number told other p q =
    let worker : p.worker ≡ q.worker = sim_workers_are_unique plan workers number p.worker q.worker p.answers q.answers in
    let output : told.output ≡ other.output = p.output ∙ ap (λ w. worker_line w ++ (run_report plan).output) worker ∙ sym q.output in
    ap₂ (λ (o : List ℕ) (e : ReportEnd). record { output = o; ending = e }) output (p.ending ∙ sym q.ending)
