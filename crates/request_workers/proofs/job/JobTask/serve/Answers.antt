use Rattle.request_workers.proofs.job.JobTask.serve.Goals as goal

pub serve_run-requires-clause-ready : goal.serve_run-requires-clause-ready
serve_run-requires-clause-ready g c = rw c.as_mut_slice-run.ensures.value c.requires.ready
