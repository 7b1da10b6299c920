use Rattle.std.proofs.Common.{◌≡◌, ◌∙◌, inl, inr, Option, None, Some, Ok, Err, refl, sym}
use Rattle.rack_parts.proofs.Members.{element_at}
use Rattle.wol_run.proofs.Unread.{not_begun}
use Rattle.wol_run.proofs.adding.format_missing.Goals as goal

-- there is none
none_here : {A : Type 0} (o : Option A) → ((x : A) → o ≡ Some x → ⊥) → o ≡ None
none_here None not = refl
none_here (Some x) not = absurd (not x refl)

pub returns-in-Err-clause-content : goal.returns-in-Err-clause-content
returns-in-Err-clause-content g c = record { read = None; has = tt; is = not_begun _ _ _ _ _ _ _ _ c.in-Err.fault c.in-Err.ensures.err refl c.tell_fault.ensures.content }

pub returns-in_default-clause-content : goal.returns-in_default-clause-content
returns-in_default-clause-content g c = record {
  read = Some c.in-Ok.config;
  has = c.in-Ok.ensures.ok;
  is = inl (record {
    unknown = sym (rw (c.deref.ensures.value, c.as_bytes-text.ensures.value) at c.number_named.ensures.found) ∙ none_here c.number_named.result c.in_default.not-Some;
    bay = refl;
    ends = rw (c.as_bytes-text.ensures.value) at c.tell_words.ensures.content;
  });
}

pub returns-in-Ok-format_missing-clause-content : goal.returns-in-Ok-format_missing-clause-content
returns-in-Ok-format_missing-clause-content g c =
    let v = element_at c.in-Ok.config.volumes.items c.in-Some.id (rw (c.deref.ensures.value) at c.in-Some.ensures.within) in
    record {
      read = Some c.in-Ok.config;
      has = c.in-Ok.ensures.ok;
      is = inr (record {
        id = c.in-Some.id;
        named = sym (rw (c.deref.ensures.value, c.as_bytes-text.ensures.value) at c.number_named.ensures.found) ∙ c.in-Some.is;
        conf = v.0;
        conf_is = v.1;
        result = Ok tt;
        left_ = λ telling. c.in-Ok-format_missing.ensures.left v.0 v.1 telling;
        refused = tt;
        ends = c.tell_made.ensures.content;
      });
    }

pub returns-clause-content : goal.returns-clause-content
returns-clause-content g c =
    let v = element_at c.in-Ok.config.volumes.items c.in-Some.id (rw (c.deref.ensures.value) at c.in-Some.ensures.within) in
    record {
      read = Some c.in-Ok.config;
      has = c.in-Ok.ensures.ok;
      is = inr (record {
        id = c.in-Some.id;
        named = sym (rw (c.deref.ensures.value, c.as_bytes-text.ensures.value) at c.number_named.ensures.found) ∙ c.in-Some.is;
        conf = v.0;
        conf_is = v.1;
        result = Err c.in-Err-format_missing.fault;
        left_ = λ telling. c.in-Err-format_missing.ensures.left v.0 v.1 telling;
        refused = c.in-Err-format_missing.ensures.refused;
        ends = rw (c.as_bytes-text.ensures.value) at c.tell_missing.ensures.content;
      });
    }
