use Rattle.std.proofs.Common.{subst}
use Rattle.pf_tool.specs.World.{world_of}
use Rattle.pf_tool.specs.Requests.{Request, request_of, texts}
use Rattle.pf_tool.specs.Runs.{Runs, Causes, ByWords, Content, Decided, Honest, OnDisks, Stays}
use Rattle.pf_tool.proofs.RunLaws.{one_request, over_one}
use Rattle.pf_tool.proofs.RunChoices.{run_causes, run_by_words, run_content, run_decided, run_honest, run_not_two, run_stays}
use Rattle.pf_tool.proofs.RunDisk.{run_disk}
use Rattle.pf_tool.proofs.run.run.Goals as goal

pub returns-in-Some-clause-usage : goal.returns-in-Some-clause-usage
returns-in-Some-clause-usage g c none =
    let request = request_of c.in-Some.command in
    let old = world_of (g.H.Host.state c.args.host.now) (g.S.Source.state c.args.input.now) (g.K.Sink.state c.args.out.now) (g.L.Sink.state c.args.log.now) (g.R.Words.state c.args.random.now) in
    let new = world_of (g.H.Host.state c.run_command.new.host) (g.S.Source.state c.run_command.new.input) (g.K.Sink.state c.run_command.new.out) (g.L.Sink.state c.run_command.new.log) (g.R.Words.state c.run_command.new.random) in
    let status = c.run_command.result in
    let run : Runs request old new status = c.run_command.ensures in
    absurd (none request c.in-Some.ensures.found)

pub returns-in-Some-clause-only_usage : goal.returns-in-Some-clause-only_usage
returns-in-Some-clause-only_usage g c two =
    let request = request_of c.in-Some.command in
    let old = world_of (g.H.Host.state c.args.host.now) (g.S.Source.state c.args.input.now) (g.K.Sink.state c.args.out.now) (g.L.Sink.state c.args.log.now) (g.R.Words.state c.args.random.now) in
    let new = world_of (g.H.Host.state c.run_command.new.host) (g.S.Source.state c.run_command.new.input) (g.K.Sink.state c.run_command.new.out) (g.L.Sink.state c.run_command.new.log) (g.R.Words.state c.run_command.new.random) in
    let status = c.run_command.result in
    let run : Runs request old new status = c.run_command.ensures in
    absurd (run_not_two request old new status run two)

pub returns-in-Some-clause-runs : goal.returns-in-Some-clause-runs
returns-in-Some-clause-runs g c other asks =
    let request = request_of c.in-Some.command in
    let old = world_of (g.H.Host.state c.args.host.now) (g.S.Source.state c.args.input.now) (g.K.Sink.state c.args.out.now) (g.L.Sink.state c.args.log.now) (g.R.Words.state c.args.random.now) in
    let new = world_of (g.H.Host.state c.run_command.new.host) (g.S.Source.state c.run_command.new.input) (g.K.Sink.state c.run_command.new.out) (g.L.Sink.state c.run_command.new.log) (g.R.Words.state c.run_command.new.random) in
    let status = c.run_command.result in
    let run : Runs request old new status = c.run_command.ensures in
    subst (λ (r : Request). Runs r old new status) (one_request (texts c.args.words.now) request other c.in-Some.ensures.found asks) run

pub returns-in-Some-clause-causes : goal.returns-in-Some-clause-causes
returns-in-Some-clause-causes g c other asks =
    let request = request_of c.in-Some.command in
    let old = world_of (g.H.Host.state c.args.host.now) (g.S.Source.state c.args.input.now) (g.K.Sink.state c.args.out.now) (g.L.Sink.state c.args.log.now) (g.R.Words.state c.args.random.now) in
    let new = world_of (g.H.Host.state c.run_command.new.host) (g.S.Source.state c.run_command.new.input) (g.K.Sink.state c.run_command.new.out) (g.L.Sink.state c.run_command.new.log) (g.R.Words.state c.run_command.new.random) in
    let status = c.run_command.result in
    let run : Runs request old new status = c.run_command.ensures in
    subst (λ (r : Request). Causes r old new status) (one_request (texts c.args.words.now) request other c.in-Some.ensures.found asks) (run_causes request old new status run)

pub returns-in-Some-clause-by_words : goal.returns-in-Some-clause-by_words
returns-in-Some-clause-by_words g c other asks =
    let request = request_of c.in-Some.command in
    let old = world_of (g.H.Host.state c.args.host.now) (g.S.Source.state c.args.input.now) (g.K.Sink.state c.args.out.now) (g.L.Sink.state c.args.log.now) (g.R.Words.state c.args.random.now) in
    let new = world_of (g.H.Host.state c.run_command.new.host) (g.S.Source.state c.run_command.new.input) (g.K.Sink.state c.run_command.new.out) (g.L.Sink.state c.run_command.new.log) (g.R.Words.state c.run_command.new.random) in
    let status = c.run_command.result in
    let run : Runs request old new status = c.run_command.ensures in
    subst (λ (r : Request). ByWords r old new status) (one_request (texts c.args.words.now) request other c.in-Some.ensures.found asks) (run_by_words request old new status run)

pub returns-in-Some-clause-content : goal.returns-in-Some-clause-content
returns-in-Some-clause-content g c other asks =
    let request = request_of c.in-Some.command in
    let old = world_of (g.H.Host.state c.args.host.now) (g.S.Source.state c.args.input.now) (g.K.Sink.state c.args.out.now) (g.L.Sink.state c.args.log.now) (g.R.Words.state c.args.random.now) in
    let new = world_of (g.H.Host.state c.run_command.new.host) (g.S.Source.state c.run_command.new.input) (g.K.Sink.state c.run_command.new.out) (g.L.Sink.state c.run_command.new.log) (g.R.Words.state c.run_command.new.random) in
    let status = c.run_command.result in
    let run : Runs request old new status = c.run_command.ensures in
    subst (λ (r : Request). Content r old new status) (one_request (texts c.args.words.now) request other c.in-Some.ensures.found asks) (run_content request old new status run)

pub returns-in-Some-clause-decided : goal.returns-in-Some-clause-decided
returns-in-Some-clause-decided g c other asks =
    let request = request_of c.in-Some.command in
    let old = world_of (g.H.Host.state c.args.host.now) (g.S.Source.state c.args.input.now) (g.K.Sink.state c.args.out.now) (g.L.Sink.state c.args.log.now) (g.R.Words.state c.args.random.now) in
    let new = world_of (g.H.Host.state c.run_command.new.host) (g.S.Source.state c.run_command.new.input) (g.K.Sink.state c.run_command.new.out) (g.L.Sink.state c.run_command.new.log) (g.R.Words.state c.run_command.new.random) in
    let status = c.run_command.result in
    let run : Runs request old new status = c.run_command.ensures in
    subst (λ (r : Request). Decided r old new status) (one_request (texts c.args.words.now) request other c.in-Some.ensures.found asks) (run_decided request old new status run)

pub returns-in-Some-clause-honest : goal.returns-in-Some-clause-honest
returns-in-Some-clause-honest g c other asks =
    let request = request_of c.in-Some.command in
    let old = world_of (g.H.Host.state c.args.host.now) (g.S.Source.state c.args.input.now) (g.K.Sink.state c.args.out.now) (g.L.Sink.state c.args.log.now) (g.R.Words.state c.args.random.now) in
    let new = world_of (g.H.Host.state c.run_command.new.host) (g.S.Source.state c.run_command.new.input) (g.K.Sink.state c.run_command.new.out) (g.L.Sink.state c.run_command.new.log) (g.R.Words.state c.run_command.new.random) in
    let status = c.run_command.result in
    let run : Runs request old new status = c.run_command.ensures in
    subst (λ (r : Request). Honest r old new status) (one_request (texts c.args.words.now) request other c.in-Some.ensures.found asks) (run_honest request old new status (g.met.H.Host.reads_as_image c.args.host.now) run)

pub returns-in-Some-clause-one_ending : goal.returns-in-Some-clause-one_ending
returns-in-Some-clause-one_ending g c =
    let request = request_of c.in-Some.command in
    let old = world_of (g.H.Host.state c.args.host.now) (g.S.Source.state c.args.input.now) (g.K.Sink.state c.args.out.now) (g.L.Sink.state c.args.log.now) (g.R.Words.state c.args.random.now) in
    let new = world_of (g.H.Host.state c.run_command.new.host) (g.S.Source.state c.run_command.new.input) (g.K.Sink.state c.run_command.new.out) (g.L.Sink.state c.run_command.new.log) (g.R.Words.state c.run_command.new.random) in
    let status = c.run_command.result in
    let run : Runs request old new status = c.run_command.ensures in
    over_one

pub returns-in-Some-clause-disk : goal.returns-in-Some-clause-disk
returns-in-Some-clause-disk g c other asks =
    let request = request_of c.in-Some.command in
    let old = world_of (g.H.Host.state c.args.host.now) (g.S.Source.state c.args.input.now) (g.K.Sink.state c.args.out.now) (g.L.Sink.state c.args.log.now) (g.R.Words.state c.args.random.now) in
    let new = world_of (g.H.Host.state c.run_command.new.host) (g.S.Source.state c.run_command.new.input) (g.K.Sink.state c.run_command.new.out) (g.L.Sink.state c.run_command.new.log) (g.R.Words.state c.run_command.new.random) in
    let status = c.run_command.result in
    let run : Runs request old new status = c.run_command.ensures in
    subst (λ (r : Request). OnDisks r old new status) (one_request (texts c.args.words.now) request other c.in-Some.ensures.found asks) (run_disk request old new status (g.met.H.Host.reads_as_image c.args.host.now) run)

pub returns-in-Some-clause-stays : goal.returns-in-Some-clause-stays
returns-in-Some-clause-stays g c other asks =
    let request = request_of c.in-Some.command in
    let old = world_of (g.H.Host.state c.args.host.now) (g.S.Source.state c.args.input.now) (g.K.Sink.state c.args.out.now) (g.L.Sink.state c.args.log.now) (g.R.Words.state c.args.random.now) in
    let new = world_of (g.H.Host.state c.run_command.new.host) (g.S.Source.state c.run_command.new.input) (g.K.Sink.state c.run_command.new.out) (g.L.Sink.state c.run_command.new.log) (g.R.Words.state c.run_command.new.random) in
    let status = c.run_command.result in
    let run : Runs request old new status = c.run_command.ensures in
    subst (λ (r : Request). Stays r old new) (one_request (texts c.args.words.now) request other c.in-Some.ensures.found asks) (run_stays request old new status run)

pub returns-in-None-clause-one_ending : goal.returns-in-None-clause-one_ending
returns-in-None-clause-one_ending g c = over_one
