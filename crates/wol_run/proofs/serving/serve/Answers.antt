use Rattle.std.proofs.Common.{None, Some, arith, inl, refl}
use Rattle.wol_run.proofs.Completing.{may_look}
use Rattle.wol_run.proofs.Served.{ends_at_client, seven_of_sink, sink_told, unserved_complete, unserved_not_sink}
use Rattle.wol_run.proofs.serving.serve.Goals as goal

pub returns-in-Err-clause-content : goal.returns-in-Err-clause-content
returns-in-Err-clause-content g c = record { read = None; has = tt; is = inl (record { fault = c.in-Err.fault; cause = c.in-Err.ensures.err; told = c.status.ensures; bay = refl; unused = refl }) }

pub returns-clause-content : goal.returns-clause-content
returns-clause-content g c =
    record {
      read = Some c.in-Ok.config;
      has = c.in-Ok.ensures.ok;
      is = record {
        result = c.serve_volume-answer.result;
        sound = c.serve_volume-answer.ensures.sound;
        others = c.serve_volume-answer.ensures.others;
        serves = c.serve_volume-answer.ensures.content;
        done = c.status_of.ensures;
      };
    }

pub returns-in-Err-clause-complete : goal.returns-in-Err-clause-complete
returns-in-Err-clause-complete g c free input = inl (unserved_complete _ _ _ c.status.result c.in-Err.fault c.in-Err.ensures.err c.status.ensures free.configured free.source)

pub returns-clause-complete : goal.returns-clause-complete
returns-clause-complete g c free input =
    ends_at_client c.serve_volume-answer.result c.status_of.result c.status_of.ensures (c.serve_volume-answer.ensures.complete input (may_look _ _ c.in-Ok.config c.in-Ok.ensures.ok _ _ _ _ free.images free.bay free.sink))

pub returns-in-Err-clause-cause : goal.returns-in-Err-clause-cause
returns-in-Err-clause-cause g c seven = absurd (unserved_not_sink _ _ _ c.status.result c.in-Err.fault c.in-Err.ensures.err c.status.ensures seven)

pub returns-clause-cause : goal.returns-clause-cause
returns-clause-cause g c seven = seven_of_sink _ _ c.in-Ok.config _ _ _ _ _ _ c.status_of.result c.serve_volume-answer.result c.serve_volume-answer.ensures.content c.status_of.ensures seven

pub returns-in-Err-clause-calm : goal.returns-in-Err-clause-calm
returns-in-Err-clause-calm g c less = absurd (omega (arith, less))

pub returns-clause-calm : goal.returns-clause-calm
returns-clause-calm g c less = sink_told _ _ c.in-Ok.config _ _ _ _ _ _ c.status_of.result c.serve_volume-answer.result c.serve_volume-answer.ensures.content c.status_of.ensures less
