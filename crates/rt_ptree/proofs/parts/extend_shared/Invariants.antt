use Rattle.std.proofs.Common.{◌≡◌, ◌+◌, ◌++◌, All, take, vec_len, flat_map}
use Rattle.rt_ptree.proofs.parts.extend_shared.Given as goal

abbrev pub invariant-loop-part : goal.invariant-loop-part
invariant-loop-part g l = record {
  fits : All g.C.Part.is_fit l.list.items;
  entries : flat_map g.C.Part.entries l.list.items ≡ flat_map g.C.Part.entries l.initial.list.items ++ flat_map g.C.Part.entries (take l.part-index l.parts);
  len : vec_len l.list ≡ vec_len l.initial.list + l.part-index;
}
