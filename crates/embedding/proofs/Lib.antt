mod InMemory
