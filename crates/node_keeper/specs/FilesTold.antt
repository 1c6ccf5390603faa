-- What is told of files in memory.
use Rattle.std.specs.Prelude.{Some, map}
use Rattle.std.specs.Option.{option_map}
use Rattle.slon_base.specs.Outside.{Filed}
use Rattle.node_keeper.specs.declared.mem_files.MemFiles.{MemFiles}
use Rattle.node_keeper.specs.NamedFiles.{named, rest_of}

abbrev pub filed_of : MemFiles → Filed
filed_of f = record {
  names = Some (named f.files.items);
  stack =
      map (λ e. Some (rest_of f.files.items e)) f.stack.items;
  unread = option_map (rest_of f.files.items) f.left;
  faults = f.plan.faults;
}
