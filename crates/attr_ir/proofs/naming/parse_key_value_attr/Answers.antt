-- `parse_key_value_attr` splits at the first EqualSigns: the name's run stands before it, the value's behind, and the name decides the case. Assumes nothing.
use Rattle.attr_ir.proofs.Values.{named-options, named-role, named-id, named-plain, named_other}
use Rattle.runs.proofs.Ranges.{found-of}
use Rattle.attr_ir.proofs.naming.parse_key_value_attr.Goals as goal

pub returns-in-Options : goal.returns-in-Options
returns-in-Options c =
    let v = c.value_of-value.ensures in
    let found = found-of c.places.ensures c.find_kind-equals.ensures.found in
    named-options _ _ _ _ _ _ _ found c.min.ensures _ v.text v.part _ c.name_of.ensures c.in-Options.is

pub returns-in-Role : goal.returns-in-Role
returns-in-Role c =
    let v = c.value_of-value.ensures in
    let found = found-of c.places.ensures c.find_kind-equals.ensures.found in
    named-role _ _ _ _ _ _ _ found c.min.ensures _ v.text v.part _ c.name_of.ensures c.in-Role.is

pub returns-in-Id : goal.returns-in-Id
returns-in-Id c =
    let v = c.value_of-value.ensures in
    let found = found-of c.places.ensures c.find_kind-equals.ensures.found in
    named-id _ _ _ _ _ _ _ found c.min.ensures _ v.text v.part _ c.name_of.ensures c.in-Id.is

pub returns-in-Plain : goal.returns-in-Plain
returns-in-Plain c =
    let v = c.value_of-value.ensures in
    let found = found-of c.places.ensures c.find_kind-equals.ensures.found in
    named-plain _ _ _ _ _ _ _ found c.min.ensures _ v.text v.part _ c.name_of.ensures _ c.name_run.ensures.run c.name_run.ensures.within c.in-Plain.is

pub returns-in-Other : goal.returns-in-Other
returns-in-Other c =
    let v = c.value_of-value.ensures in
    let found = found-of c.places.ensures c.find_kind-equals.ensures.found in
    named_other _ _ _ _ _ _ _ found c.min.ensures _ v.text v.part _ c.name_of.ensures _ c.name_run-in-Other.ensures.run c.name_run-in-Other.ensures.within c.in-Other.is
